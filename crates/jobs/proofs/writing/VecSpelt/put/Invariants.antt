use Rattle.std.proofs.Common.{◌≡◌, ◌++◌, take}
use Rattle.std.specs.List.{flat_map}
use Rattle.jobs.proofs.writing.VecSpelt.put.Given as goal

abbrev pub invariant-loop-item : goal.invariant-loop-item
invariant-loop-item g l = l.sheet.items ≡ l.initial.sheet.items ++ flat_map g.T.Spelt.text (take l.item-index l.item-items)
