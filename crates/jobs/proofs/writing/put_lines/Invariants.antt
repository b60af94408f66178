use Rattle.std.proofs.Common.{◌≡◌, ◌++◌, take}
use Rattle.std.specs.List.{flat_map}
use Rattle.jobs.specs.RowTexts.{line_text}
use Rattle.jobs.proofs.writing.put_lines.Given as goal

abbrev pub invariant-loop-row : goal.invariant-loop-row
invariant-loop-row g l = l.sheet.items ≡ l.initial.sheet.items ++ flat_map (λ row. line_text l.letter (g.T.Spelt.text row)) (take l.row-index l.rows)
