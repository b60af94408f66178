use Rattle.std.proofs.Common.{take, map}
use Rattle.std.specs.List.{AllByRecursion}
use Rattle.ring_jobs.specs.RingJobs.{job_numbers}
use Rattle.calls.specs.Records.{row_view}
use Rattle.calls.specs.Fits.{Fits}
use Rattle.calls.proofs.lists.fit_all.Given as goal

abbrev pub invariant-loop-row : goal.invariant-loop-row
invariant-loop-row g l =
    let E = g.R.Ring.exact in
    AllByRecursion (Fits E (job_numbers E g.R.Ring.value l.job)) (map (row_view E g.R.Ring.listed) (take l.row-index l.rows))
