use Rattle.chains.proofs.nodes_are_seeds_and_children.Goals as goal
use Rattle.chains.proofs.Nodes.{seeds_and_children}

pub returns : goal.returns
returns g c N = seeds_and_children g.R.Ring.exact N
