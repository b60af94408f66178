use Rattle.std.proofs.Common.{of_calls}
use Rattle.chains.specs.Addresses.{child_entries, child_tile}
use Rattle.ring_jobs.specs.RingJobs.{coefficients, job_numbers}
use Rattle.nodes.proofs.Onward.{tile_of_entry}
use Rattle.nodes.proofs.advancing.tile_of_child.Goals as goal

pub returns : goal.returns
unfolding child_tile
returns g c =
    let E = g.R.Ring.exact in let v = g.R.Ring.value in
    tile_of_entry (coefficients E v) (child_entries (job_numbers E v c.args.job.now) c.args.t) c.args.k c.map_or.result c.child_row.result _ c.child_row.ensures c.map_or.ensures (λ child p. search of_calls)
