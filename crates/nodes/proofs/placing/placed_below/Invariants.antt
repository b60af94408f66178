use Rattle.std.proofs.Common.{◌≡◌, true, drop}
use Rattle.chains.specs.Addresses.{leads_down, node_placement, placement_below}
use Rattle.edges.specs.Views.{placement_view}
use Rattle.ring_jobs.specs.RingJobs.{job_numbers}
use Rattle.nodes.specs.Table.{kept_way, kept_below}
use Rattle.nodes.specs.Views.{address_view}
use Rattle.nodes.proofs.placing.placed_below.Given as goal

abbrev pub invariant-loop-k : goal.invariant-loop-k
invariant-loop-k g l =
    let E = g.R.Ring.exact in
    let v = g.R.Ring.value in
    let N = job_numbers E v l.job in
    let p = placement_view E v l.placed in
    let rest = drop l.k-index l.k-items in
    (kept_way E N (address_view l.at) ≡ kept_below E N p rest) × (node_placement E N (address_view l.at) ≡ placement_below E N p rest) × (leads_down N p.tile rest ≡ true)
