use Rattle.runs.proofs.runs_conserve_readings.Goals as goal
use Rattle.runs.proofs.Laws.{reading_conserved}

pub returns : goal.returns
returns g c N B A r R room calls = reading_conserved g.R.Ring.exact g.met.R.Ring.lawful N B A g.G.Group.group g.met.G.Group.lawful r R room calls
