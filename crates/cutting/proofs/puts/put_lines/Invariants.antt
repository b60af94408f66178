use Rattle.std.proofs.Common.{take, Some}
use Rattle.std.specs.List.{flat_map}
use Rattle.calls.specs.Records.{row_view}
use Rattle.cutting.specs.Lines.{line}
use Rattle.cutting.specs.Puts.{Puts}
use Rattle.cutting.proofs.puts.put_lines.Given as goal

abbrev pub invariant-loop-row : goal.invariant-loop-row
invariant-loop-row g l =
    let E = g.R.Ring.exact in
    Puts l.initial.buffer 0 (flat_map (λ row. line E (row_view E g.R.Ring.listed row)) (take l.row-index l.rows)) l.buffer (Some l.end)
