use Rattle.chains.proofs.moves_conserve_the_boundary.Goals as goal
use Rattle.chains.proofs.Conserving.{moves_conserve}

pub returns : goal.returns
returns g c N A f h m k = moves_conserve g.R.Ring.exact g.met.R.Ring.lawful N A f h m k
