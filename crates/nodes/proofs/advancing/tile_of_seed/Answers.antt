use Rattle.std.proofs.Common.{of_calls}
use Rattle.chains.specs.Addresses.{seed_tile}
use Rattle.ring_jobs.specs.RingJobs.{coefficients, job_numbers}
use Rattle.nodes.proofs.Onward.{tile_of_entry}
use Rattle.nodes.proofs.advancing.tile_of_seed.Goals as goal

pub returns : goal.returns
unfolding seed_tile
returns g c =
    let E = g.R.Ring.exact in let v = g.R.Ring.value in
    tile_of_entry (coefficients E v) (job_numbers E v c.args.job.now).seeds c.args.k c.map_or.result c.seed_row.result _ c.seed_row.ensures c.map_or.ensures (λ seed p. search of_calls)
