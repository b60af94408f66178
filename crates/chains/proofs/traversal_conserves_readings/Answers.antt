use Rattle.chains.proofs.traversal_conserves_readings.Goals as goal
use Rattle.chains.proofs.Conserving.{readings_conserved}

pub returns : goal.returns
returns g c N A r R f run = readings_conserved g.R.Ring.exact g.met.R.Ring.lawful N A g.G.Group.group g.met.G.Group.lawful r R f run
