use Rattle.chains.proofs.traversal_conserves_the_boundary.Goals as goal
use Rattle.chains.proofs.Conserving.{reached_of_the_job, reached_conserves}

pub returns : goal.returns
returns g c N A f r = (reached_of_the_job N f r, reached_conserves g.R.Ring.exact g.met.R.Ring.lawful N A f r)
