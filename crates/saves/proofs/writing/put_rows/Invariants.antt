use Rattle.std.proofs.Common.{◌≡◌, ◌+◌, length, map, take, flat_map}
use Rattle.calls.specs.Records.{row_view}
use Rattle.files.specs.Files.{record_bytes}
use Rattle.saves.specs.Written.{with_bytes}
use Rattle.saves.proofs.writing.put_rows.Given as goal

abbrev pub invariant-loop-row : goal.invariant-loop-row
invariant-loop-row g l =
    let E = g.R.Ring.exact in
    let bytes = flat_map (record_bytes E) (map (row_view E g.R.Ring.listed) (take l.row-index l.rows)) in
    (l.at ≡ l.initial.at + length bytes) × (l.buffer ≡ with_bytes l.initial.buffer l.initial.at bytes)
