use Rattle.std.proofs.Common.{sym, ap, ◌∙◌}
use Rattle.ring_jobs.specs.RingJobs.{job_numbers}
use Rattle.nodes.specs.Table.{cornered}
use Rattle.nodes.proofs.Downward.{fault_entry_of, cornered_fault}
use Rattle.nodes.proofs.placing.child_placement.Goals as goal

pub returns-in_err-placed : goal.returns-in_err-placed
returns-in_err-placed g c =
    let E = g.R.Ring.exact in let v = g.R.Ring.value in let N = job_numbers E v c.args.job.now in
    fault_entry_of E v c.from_residual.result c.in_err-placed.field-0.0 _ c.from_residual.ensures.1 (sym (cornered_fault E N c.in_err-placed.field-0.0) ∙ ap (cornered E N) c.in_err-placed.ensures)

pub returns : goal.returns
unfolding cornered
returns g c =
    let E = g.R.Ring.exact in let v = g.R.Ring.value in let N = job_numbers E v c.args.job.now in
    c.with_corners.ensures ∙ ap (cornered E N) c.in_ok-placed.ensures
