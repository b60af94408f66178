use Rattle.std.proofs.Common.{Ok, sym, ap, subst}
use Rattle.edges.specs.Views.{book_view}
use Rattle.ring_jobs.specs.RingJobs.{job_numbers}
use Rattle.ring_jobs.proofs.Booked.{book_is}
use Rattle.calls.specs.Records.{laid_view}
use Rattle.meters.proofs.Laid.{RowRead, piece_read, none_read}
use Rattle.meters.proofs.rows.reading_of_row.Goals as goal

pub returns-in_ok-from_plain-in-Some : goal.returns-in_ok-from_plain-in-Some
returns-in_ok-from_plain-in-Some g c =
    let E = g.R.Ring.exact in let v = g.R.Ring.value in let N = job_numbers E v c.args.job.now in
    let p = c.in-Some.piece in
    let k = c.in_ok-from_plain-in-Some.ensures.is in
    let reads = g.M.Meter.reads c.args.meter.now E v in
    subst (RowRead E N g.M.Meter.group g.M.Meter.worth reads c.reading_of_piece.result) (sym (ap (laid_view E g.R.Ring.listed) c.in-Some.is))
    (piece_read E N g.M.Meter.group g.M.Meter.worth reads c.reading_of_piece.result (book_view E v c.args.job.now.book) (book_is E g.met.R.Ring.lawful v c.args.job.now)
    p.tile p.turn p.mirrored (v c.in_ok-from_plain-in-Some.field-0) (E.of (g.R.Ring.listed p.place)) k.0 k.1 c.reading_of_piece.ensures)

pub returns-in-None : goal.returns-in-None
returns-in-None g c =
    let E = g.R.Ring.exact in let v = g.R.Ring.value in let N = job_numbers E v c.args.job.now in
    let reads = g.M.Meter.reads c.args.meter.now E v in
    subst (RowRead E N g.M.Meter.group g.M.Meter.worth reads (Ok c.zero.result)) (sym (ap (laid_view E g.R.Ring.listed) c.in-None.is))
    (none_read E N g.M.Meter.group g.M.Meter.worth reads c.zero.result (g.met.M.Meter.tied.zero c.zero.result c.zero.ensures))
