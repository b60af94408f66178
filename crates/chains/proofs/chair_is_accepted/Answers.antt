use Rattle.chains.proofs.chair_is_accepted.Goals as goal
use Rattle.chains.proofs.Examples.{chair_accepted}

pub returns : goal.returns
returns c = chair_accepted
