use Rattle.runs.proofs.runs_tell.Goals as goal
use Rattle.runs.proofs.Laws.{telling_all}

pub returns : goal.returns
returns g c N B room more calls others e f = telling_all g.R.Ring.exact N B room more calls others e f
