use Rattle.std.proofs.Common.{◌≡◌, ◌+◌, length, map, take, flat_map}
use Rattle.calls.specs.Records.{row_view}
use Rattle.files.specs.Files.{record_bytes}
use Rattle.saves.proofs.saving.file_width.Given as goal

abbrev pub invariant-loop-row : goal.invariant-loop-row
invariant-loop-row g l = l.width ≡ 4 + length (flat_map (record_bytes g.R.Ring.exact) (map (row_view g.R.Ring.exact g.R.Ring.listed) (take l.row-index l.rows)))
