use Rattle.std.proofs.Common.{Some, sym, ap, ◌∙◌}
use Rattle.ring_jobs.specs.RingJobs.{job_numbers}
use Rattle.nodes.specs.Views.{address_at}
use Rattle.nodes.proofs.Onward.{a_seed, no_seed}
use Rattle.nodes.proofs.advancing.seed_numbered.Goals as goal

pub returns-in_err-seed_row : goal.returns-in_err-seed_row
returns-in_err-seed_row g c =
    let N = job_numbers g.R.Ring.exact g.R.Ring.value c.args.job.now in
    ap address_at c.from_residual.ensures ∙ sym (no_seed N c.args.seed c.in_err-seed_row.ensures)

pub returns : goal.returns
returns g c =
    let N = job_numbers g.R.Ring.exact g.R.Ring.value c.args.job.now in
    ap Some c.of_seed.ensures ∙ sym (a_seed N c.args.seed c.in_ok-seed_row.ensures.0)
