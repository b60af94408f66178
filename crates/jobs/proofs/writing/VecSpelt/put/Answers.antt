use Rattle.std.proofs.Common.{arith}
use Rattle.std.proofs.lemmas.List.{length-append}
use Rattle.std.proofs.lemmas.List.Folds.{length-flat_map-take}
use Rattle.jobs.proofs.writing.VecSpelt.put.Goals as goal

pub returns-in_err-put : goal.returns-in_err-put
returns-in_err-put g c = grind (arith, length-append, length-flat_map-take)
