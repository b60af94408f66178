use Rattle.chains.proofs.agreeing_where_edges_occur_is_enough.Goals as goal
use Rattle.chains.proofs.Occurring.{suffices}

pub returns : goal.returns
returns g c B xs ys h = suffices g.R.Ring.exact g.met.R.Ring.lawful B xs ys h
