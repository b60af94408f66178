use Rattle.chains.proofs.children_compose.Goals as goal
use Rattle.chains.proofs.Images.{children_compose}

pub returns : goal.returns
returns g c B p q = children_compose g.R.Ring.exact g.met.R.Ring.lawful B p q
