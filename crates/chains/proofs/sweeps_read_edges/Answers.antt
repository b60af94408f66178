use Rattle.chains.proofs.sweeps_read_edges.Goals as goal
use Rattle.chains.proofs.Sweeping.{sweeps_read}

pub returns : goal.returns
returns g c = sweeps_read g.R.Ring.exact g.met.R.Ring.lawful
