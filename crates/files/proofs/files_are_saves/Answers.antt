use Rattle.files.proofs.files_are_saves.Goals as goal
use Rattle.files.proofs.Saves.{files_are_saves}

pub returns : goal.returns
returns g c N low file t = files_are_saves g.R.Ring.exact g.met.R.Ring.lawful N low file t
