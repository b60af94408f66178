use Rattle.std.proofs.Common.{◌≡◌, ◌+◌, ◌++◌, length, map, take, sym, ap, ◌∙◌, subst, arith, flat_map}
use Rattle.calls.specs.Records.{row_view}
use Rattle.files.specs.Files.{record_bytes}
use Rattle.saves.specs.Written.{Writable}
use Rattle.saves.proofs.Buffers.{length_more, place_more, with_one_more}
use Rattle.saves.proofs.Widths.{rows_more, rows_room, all_at}
use Rattle.saves.proofs.writing.put_rows.Goals as goal

pub put_row-at-requires-clause-room : goal.put_row-at-requires-clause-room
put_row-at-requires-clause-room g c =
    let E = g.R.Ring.exact in
    let room = rows_room (record_bytes E) (row_view E g.R.Ring.listed) c.args.rows.now c.loop-row.row-index c.row-item.result c.loop-row-test.true in
    let item = ap (λ r. length (record_bytes E (row_view E g.R.Ring.listed r))) c.row-item.is in
    omega (arith, c.loop-row.invariant.0, c.requires.room)

pub put_row-at-requires-clause-writable : goal.put_row-at-requires-clause-writable
put_row-at-requires-clause-writable g c =
    let E = g.R.Ring.exact in
    subst (λ r. Writable E (row_view E g.R.Ring.listed r)) (sym c.row-item.is) (all_at (Writable E) (row_view E g.R.Ring.listed) c.args.rows.now c.loop-row.row-index c.row-item.result c.loop-row-test.true c.requires.writable)

pub loop-row-preserved : goal.loop-row-preserved
loop-row-preserved g c =
    let E = g.R.Ring.exact in
    let view = row_view E g.R.Ring.listed in
    let done = flat_map (record_bytes E) (map view (take c.loop-row.row-index c.args.rows.now)) in
    let piece = record_bytes E (view c.row-item.result) in
    let more : flat_map (record_bytes E) (map view (take (c.loop-row.row-index + 1) c.args.rows.now)) ≡ done ++ piece =
    rows_more (record_bytes E) view c.args.rows.now c.loop-row.row-index c.row-item.result c.loop-row-test.true ∙ ap (λ r. done ++ record_bytes E (view r)) (sym c.row-item.is) in
    let room = rows_room (record_bytes E) view c.args.rows.now c.loop-row.row-index c.row-item.result c.loop-row-test.true in
    let item = ap (λ r. length (record_bytes E (view r))) c.row-item.is in (
      c.put_row-at.ensures.end ∙ place_more c.args.at c.loop-row.at done piece _ c.loop-row.invariant.0 more,
      c.put_row-at.ensures.written ∙ with_one_more c.args.buffer.now c.loop-row.buffer c.args.at c.loop-row.at done piece _ c.loop-row.invariant.1 c.loop-row.invariant.0 more (omega (arith, c.requires.room, length_more done piece _ more)),
    )
