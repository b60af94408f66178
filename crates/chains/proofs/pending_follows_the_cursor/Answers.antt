use Rattle.chains.proofs.pending_follows_the_cursor.Goals as goal
use Rattle.chains.proofs.Following.{follows}

pub returns : goal.returns
returns c = follows
