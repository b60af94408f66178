use Rattle.replies.proofs.Alone as alone
use Rattle.replies.proofs.one_reply.Goals as goal

pub returns : goal.returns
returns c = alone.one_reply
