use Rattle.std.proofs.Common.{of_calls}
use Rattle.ring_jobs.specs.RingJobs.{job_numbers}
use Rattle.nodes.proofs.Onward.{advances}
use Rattle.nodes.proofs.advancing.advanced.Goals as goal

pub returns : goal.returns
returns g c =
    let N = job_numbers g.R.Ring.exact g.R.Ring.value c.args.job.now in
    advances N c.args.at.now c.later_child.result c.or_else.result _ c.later_child.ensures c.or_else.ensures (λ p. search of_calls)
