use Rattle.chains.proofs.penrose_is_accepted.Goals as goal
use Rattle.chains.proofs.Examples.{penrose_accepted}

pub returns : goal.returns
returns c = penrose_accepted
