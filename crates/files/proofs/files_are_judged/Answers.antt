use Rattle.files.proofs.files_are_judged.Goals as goal
use Rattle.files.proofs.Reading.{judging}

pub returns : goal.returns
returns g c N low file h t = judging g.R.Ring.exact g.met.R.Ring.lawful N low file h t
