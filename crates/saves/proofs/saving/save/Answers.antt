use Rattle.std.proofs.Common.{◌≡◌, ◌/◌, ◌%◌, ◌<◌, ◌≤◌, [], ◌∷◌, length, map, take, sym, refl, ap, ◌∙◌, subst, arith, flat_map}
use Rattle.std.specs.List.{AllByRecursion}
use Rattle.std.proofs.lemmas.List.{length-map}
use Rattle.ring_jobs.specs.RingJobs.{job_numbers}
use Rattle.calls.specs.Records.{row_view}
use Rattle.calls.proofs.Firsts.{refused_with}
use Rattle.files.specs.Files.{record_bytes, saved}
use Rattle.calls.specs.Views.{sheet_of}
use Rattle.saves.specs.Written.{Writable}
use Rattle.saves.proofs.Saves.{body_of, file_length, written, writable}
use Rattle.saves.proofs.saving.save.Goals as goal

pub returns-in_err-room_for : goal.returns-in_err-room_for
returns-in_err-room_for g c =
    let E = g.R.Ring.exact in
    let N = job_numbers E g.R.Ring.value c.args.job.now in
    let view = row_view E g.R.Ring.listed in
    let s = sheet_of E g.R.Ring.listed c.args.cursor.now c.args.count c.args.list.now in
    let long = ap (λ rows. length (flat_map (record_bytes E) (map view rows))) c.in_ok-rows.ensures.0 in
    let short : length c.args.buffer.now < length (saved E N s) = omega (arith, file_length E N s, c.in_err-room_for.ensures) in
    let many : length s.records ≡ c.args.count = length-map (take c.args.count c.args.list.now) view ∙ ap length (sym c.in_ok-rows.ensures.0) ∙ c.in_ok-rows.ensures.1 in
    refused_with c.from_residual-in_err-room_for.result _ _ _ c.from_residual-in_err-room_for.ensures.1 ((c.if-count-gt-MOST_PIECES.false, many, c.in_ok-rows.ensures.2, short), refl)

pub put_rows-at-requires-clause-writable : goal.put_rows-at-requires-clause-writable
put_rows-at-requires-clause-writable g c =
    let E = g.R.Ring.exact in
    subst (λ rows. AllByRecursion (Writable E) (map (row_view E g.R.Ring.listed) rows)) (sym c.in_ok-rows.ensures.0) (writable E (job_numbers E g.R.Ring.value c.args.job.now) _ c.in_ok-rows.ensures.2)

pub returns : goal.returns
returns g c =
    let E = g.R.Ring.exact in
    let N = job_numbers E g.R.Ring.value c.args.job.now in
    let view = row_view E g.R.Ring.listed in
    let s = sheet_of E g.R.Ring.listed c.args.cursor.now c.args.count c.args.list.now in
    let rows = c.in_ok-rows.rows.now in
    let many : length s.records ≡ c.args.count = length-map (take c.args.count c.args.list.now) view ∙ ap length (sym c.in_ok-rows.ensures.0) ∙ c.in_ok-rows.ensures.1 in
    let body : flat_map (record_bytes E) (map view rows) ≡ body_of E N s = ap (λ rows. flat_map (record_bytes E) (map view rows)) c.in_ok-rows.ensures.0 in
    let fits : length (saved E N s) ≤ length c.args.buffer.now = omega (arith, file_length E N s, c.in_ok-room_for.ensures, ap length body) in
    let x = written E N s c.args.buffer.now c.put-at.new.buffer c.put_rows-at.new.buffer c.put.new.buffer c.put-at.result c.put_rows-at.result c.put.result c.header.result (flat_map (record_bytes E) (map view rows)) c.last_descents.result fits
    (c.header.ensures ∙ ap (λ k. N.depth ∷ (k / 256) ∷ (k % 256) ∷ []) (sym many)) body c.last_descents.ensures
    c.put-at.ensures.end c.put-at.ensures.written c.put_rows-at.ensures.end c.put_rows-at.ensures.written c.put.ensures.end c.put.ensures.written in
    (x.0, x.1, c.if-count-gt-MOST_PIECES.false, many, c.in_ok-rows.ensures.2)
