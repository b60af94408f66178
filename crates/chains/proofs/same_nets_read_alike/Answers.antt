use Rattle.chains.proofs.same_nets_read_alike.Goals as goal
use Rattle.chains.proofs.Edges.{cancels}

pub returns : goal.returns
returns g c B r R = cancels g.R.Ring.exact g.met.R.Ring.lawful B g.G.Group.group g.met.G.Group.lawful r R
