use Rattle.std.proofs.Common.{length, ap, arith}
use Rattle.calls.specs.Records.{row_view}
use Rattle.files.specs.Files.{record_bytes}
use Rattle.saves.proofs.Widths.{rows_room}
use Rattle.saves.proofs.saving.file_width.Goals as goal

pub returns-in_err-row_width : goal.returns-in_err-row_width
returns-in_err-row_width g c =
    let E = g.R.Ring.exact in
    let room = rows_room (record_bytes E) (row_view E g.R.Ring.listed) c.args.rows.now c.loop-row.row-index c.row-item.result c.loop-row-test.true in
    let item = ap (λ r. length (record_bytes E (row_view E g.R.Ring.listed r))) c.row-item.is in
    let many = c.in_err-row_width.ensures in
    rw c.from_residual.ensures (omega (arith, many))

pub returns-in_err-width : goal.returns-in_err-width
returns-in_err-width g c =
    let E = g.R.Ring.exact in
    let room = rows_room (record_bytes E) (row_view E g.R.Ring.listed) c.args.rows.now c.loop-row.row-index c.row-item.result c.loop-row-test.true in
    let item = ap (λ r. length (record_bytes E (row_view E g.R.Ring.listed r))) c.row-item.is in
    let many = c.in_err-width.ensures in
    rw c.from_residual-in_err-width.ensures (omega (arith, many, c.in_ok-row_width.ensures, c.loop-row.invariant))
