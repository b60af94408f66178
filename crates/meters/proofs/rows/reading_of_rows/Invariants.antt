use Rattle.chains.specs.Books.{book_of}
use Rattle.ring_jobs.specs.RingJobs.{job_numbers}
use Rattle.calls.specs.Records.{row_view}
use Rattle.meters.proofs.Listed.{RowsSoFar}
use Rattle.meters.proofs.rows.reading_of_rows.Given as goal

abbrev pub invariant-loop-row : goal.invariant-loop-row
invariant-loop-row g l =
    let E = g.R.Ring.exact in
    let v = g.R.Ring.value in
    let N = job_numbers E v l.job in
    RowsSoFar E N (row_view E g.R.Ring.listed) l.rows g.M.Meter.group g.met.M.Meter.lawful (g.M.Meter.reads l.meter E v (book_of E N)) l.row-index (g.M.Meter.worth l.sum)
