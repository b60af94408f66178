use Rattle.files.proofs.one_file_one_sheet.Goals as goal
use Rattle.files.proofs.Saves.{one_file_one_sheet}

pub returns : goal.returns
returns g c N low s t x y e = one_file_one_sheet g.R.Ring.exact g.met.R.Ring.lawful N low s t x y e
