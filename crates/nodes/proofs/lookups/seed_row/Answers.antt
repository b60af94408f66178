use Rattle.std.proofs.Common.{map, sym, ap, ◌∙◌}
use Rattle.job_rows.specs.Shapes.{placed_with}
use Rattle.ring_jobs.specs.RingJobs.{coefficients}
use Rattle.nodes.proofs.Numbered.{seeds_are, entry_copied}
use Rattle.nodes.proofs.lookups.seed_row.Goals as goal

pub returns : goal.returns
returns g c =
    let f = coefficients g.R.Ring.exact g.R.Ring.value in
    rw c.copied.ensures (entry_copied f _ c.deref.result.now (seeds_are f c.args.job.now ∙ ap (map (placed_with f)) (sym c.deref.ensures.value)) c.args.k c.get.result c.get.ensures.lookup)
