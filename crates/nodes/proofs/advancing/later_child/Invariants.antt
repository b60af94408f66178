use Rattle.std.proofs.Common.{◌≡◌, take, drop}
use Rattle.std.specs.Option.{option_or}
use Rattle.chains.specs.Addresses.{seed_address, seed_tile, next_path}
use Rattle.ring_jobs.specs.RingJobs.{job_numbers}
use Rattle.nodes.specs.Views.{address_view, address_at, further}
use Rattle.nodes.proofs.advancing.later_child.Given as goal

-- what is next below the node reached or, where that is none, what was kept of what is beside the way to it
abbrev pub invariant-loop-level : goal.invariant-loop-level
invariant-loop-level g l =
    let N = job_numbers g.R.Ring.exact g.R.Ring.value l.job in
    further (seed_address l.at.seed) (next_path N (seed_tile N l.at.seed) (address_view l.at).path)
    ≡ option_or (further (record { seed = l.at.seed; path = take l.level l.k-items }) (next_path N l.tile (drop l.level l.k-items))) (address_at l.nearest)
