use Rattle.std.proofs.Common.{◌≡◌, drop}
use Rattle.chains.specs.Addresses.{leads_down}
use Rattle.ring_jobs.specs.RingJobs.{job_numbers}
use Rattle.nodes.proofs.placing.path_leads_down.Given as goal

abbrev pub invariant-loop-k : goal.invariant-loop-k
invariant-loop-k g l =
    let N = job_numbers g.R.Ring.exact g.R.Ring.value l.job in
    leads_down N l.t l.children ≡ leads_down N l.tile (drop l.k-index l.children)
