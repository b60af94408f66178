use Rattle.runs.proofs.runs_need_no_resume.Goals as goal
use Rattle.runs.proofs.Laws.{no_resume_needed}

pub returns : goal.returns
returns g c N room calls = no_resume_needed g.R.Ring.exact N room calls
