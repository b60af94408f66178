use Rattle.runs.proofs.runs_conserve.Goals as goal
use Rattle.runs.proofs.Laws.{conserving}

pub returns : goal.returns
returns g c N B A room calls = conserving g.R.Ring.exact g.met.R.Ring.lawful N B A room calls
