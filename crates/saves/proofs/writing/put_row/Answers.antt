use Rattle.std.proofs.Common.{◌+◌, [], ◌∷◌, ap, ◌∙◌, sym, arith}
use Rattle.calls.specs.Records.{piece_view, laid_view, row_view}
use Rattle.files.specs.Files.{place_bytes}
use Rattle.saves.specs.Written.{with_bytes}
use Rattle.saves.proofs.Buffers.{place_more, with_one_more}
use Rattle.saves.proofs.Widths.{laid_width, aside_width, laid_bytes, aside_bytes}
use Rattle.saves.proofs.writing.put_row.Goals as goal

pub put-requires : goal.put-requires
put-requires g c =
    let E = g.R.Ring.exact in
    let w = aside_width E g.met.R.Ring.lawful (row_view E g.R.Ring.listed c.args.row.now) (ap (laid_view E g.R.Ring.listed) c.in-None.is) in
    omega (arith, c.requires.room)

pub put-at-requires : goal.put-at-requires
put-at-requires g c =
    let E = g.R.Ring.exact in
    let w = laid_width E g.met.R.Ring.lawful (row_view E g.R.Ring.listed c.args.row.now) _ (ap (laid_view E g.R.Ring.listed) c.in-Some.is) in
    omega (arith, c.requires.room)

pub put_place-requires-clause-room : goal.put_place-requires-clause-room
put_place-requires-clause-room g c =
    let E = g.R.Ring.exact in
    let w = laid_width E g.met.R.Ring.lawful (row_view E g.R.Ring.listed c.args.row.now) _ (ap (laid_view E g.R.Ring.listed) c.in-Some.is) in
    omega (arith, c.requires.room, c.put-at.ensures.end, c.put-at.auto.buffer)

pub returns-in-None-clause-end : goal.returns-in-None-clause-end
returns-in-None-clause-end g c =
    let E = g.R.Ring.exact in
    let w = aside_width E g.met.R.Ring.lawful (row_view E g.R.Ring.listed c.args.row.now) (ap (laid_view E g.R.Ring.listed) c.in-None.is) in
    c.put.ensures.end ∙ ap (λ n. c.args.at + n) (sym w)

pub returns-in-None-clause-written : goal.returns-in-None-clause-written
returns-in-None-clause-written g c =
    let E = g.R.Ring.exact in
    c.put.ensures.written
    ∙ ap (with_bytes c.args.buffer.now c.args.at) (sym (aside_bytes E (row_view E g.R.Ring.listed c.args.row.now) c.aside_byte.result (ap (laid_view E g.R.Ring.listed) c.in-None.is) c.aside_byte.ensures))

pub returns-in-Some-clause-end : goal.returns-in-Some-clause-end
returns-in-Some-clause-end g c =
    let E = g.R.Ring.exact in
    let piece = piece_view E g.R.Ring.listed c.in-Some.piece in
    let more = laid_bytes E (row_view E g.R.Ring.listed c.args.row.now) piece c.laid_byte.result c.turn_byte.result (ap (laid_view E g.R.Ring.listed) c.in-Some.is) c.laid_byte.ensures c.turn_byte.ensures in
    c.put_place.ensures.end ∙ place_more c.args.at c.put-at.result (c.laid_byte.result ∷ c.turn_byte.result ∷ []) (place_bytes E piece.place) _ c.put-at.ensures.end more

pub returns-in-Some-clause-written : goal.returns-in-Some-clause-written
returns-in-Some-clause-written g c =
    let E = g.R.Ring.exact in
    let piece = piece_view E g.R.Ring.listed c.in-Some.piece in
    let more = laid_bytes E (row_view E g.R.Ring.listed c.args.row.now) piece c.laid_byte.result c.turn_byte.result (ap (laid_view E g.R.Ring.listed) c.in-Some.is) c.laid_byte.ensures c.turn_byte.ensures in
    c.put_place.ensures.written ∙ with_one_more c.args.buffer.now c.put-at.new.buffer c.args.at c.put-at.result (c.laid_byte.result ∷ c.turn_byte.result ∷ []) (place_bytes E piece.place) _ c.put-at.ensures.written c.put-at.ensures.end more c.requires.room
