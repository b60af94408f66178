use Rattle.std.proofs.Common.{◌≡◌, ◌++◌, take}
use Rattle.std.specs.List.{flat_map}
use Rattle.jobs.specs.RowTexts.{subdivision_line_text}
use Rattle.jobs.proofs.writing.put_subdivisions.Given as goal

abbrev pub invariant-loop-label : goal.invariant-loop-label
invariant-loop-label l = l.sheet.items ≡ l.initial.sheet.items ++ flat_map subdivision_line_text (take l.label-index l.labels)
