use Rattle.std.proofs.Common.{◌<◌, length, ap, ◌∙◌, arith}
use Rattle.ring_jobs.specs.RingJobs.{coefficients, job_numbers}
use Rattle.nodes.specs.Views.{address_at}
use Rattle.nodes.proofs.Onward.{few_children, a_child_after, no_child_after}
use Rattle.nodes.proofs.advancing.child_after.Goals as goal

pub returns-in_err-child_row : goal.returns-in_err-child_row
returns-in_err-child_row g c =
    let N = job_numbers g.R.Ring.exact g.R.Ring.value c.args.job.now in let a = c.args.at.now in
    ap address_at c.from_residual.ensures ∙ no_child_after N c.args.t c.args.k c.from-next.result c.from-next.ensures a.seed a.path c.args.level c.in_err-child_row.ensures

pub overflow_cast-path : goal.overflow_cast-path
overflow_cast-path g c =
    let few = few_children (coefficients g.R.Ring.exact g.R.Ring.value) c.args.job.now c.args.t in
    omega (arith, c.in_ok-child_row.ensures.0)

pub returns : goal.returns
returns g c =
    let N = job_numbers g.R.Ring.exact g.R.Ring.value c.args.job.now in let a = c.args.at.now in
    let within : c.args.level < length a.path = omega arith in
    a_child_after N c.args.t c.args.k c.from-next.result c.from-next.ensures a.seed a.path c.args.level within c.in_ok-child_row.ensures.0
