use Rattle.ring_jobs.specs.RingJobs.{job_numbers}
use Rattle.calls.specs.Records.{row_view}
use Rattle.calls.proofs.Firsts.{refused_with, first_unfit}
use Rattle.calls.proofs.lists.fit_all.Goals as goal

pub returns-in_err-fit_row : goal.returns-in_err-fit_row
returns-in_err-fit_row g c =
    let E = g.R.Ring.exact in let v = g.R.Ring.value in
    refused_with c.from_residual.result _ _ _ c.from_residual.ensures.1
    (first_unfit E (job_numbers E v c.args.job.now) (row_view E g.R.Ring.listed) c.args.rows.now c.loop-row.row-index c.row-item.result _ c.loop-row-test.true c.loop-row.invariant (rw c.row-item.is at c.in_err-fit_row.ensures))
