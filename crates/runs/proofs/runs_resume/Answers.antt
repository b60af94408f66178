use Rattle.runs.proofs.runs_resume.Goals as goal
use Rattle.runs.proofs.Laws.{resuming_lawful, refusing_others, telling_where}

pub returns : goal.returns
returns g c N B room calls =
    (resuming_lawful g.R.Ring.exact g.met.R.Ring.lawful N B room _, refusing_others g.R.Ring.exact g.met.R.Ring.lawful N B room _, telling_where g.R.Ring.exact g.met.R.Ring.lawful N B room _)
