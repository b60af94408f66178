use Rattle.std.proofs.Common.{◌⊎◌, inl, inr, ◌∙◌}
use Rattle.ring_jobs.specs.RingJobs.{job_numbers}
use Rattle.saves.proofs.Headers.{cut, bad_header, good_header}
use Rattle.saves.proofs.judging.counted.Goals as goal

pub returns-in_default : goal.returns-in_default
returns-in_default g c = cut g.R.Ring.exact (job_numbers g.R.Ring.exact g.R.Ring.value c.args.job.now) c.args.file.now c.in_default.len_below

-- one of the two tests, whatever the first says of the second
either : {A B C : Type 0} → A ⊎ (C × B) → A ⊎ B
either (inl a) = inl a
either (inr b) = inr b.1

pub returns-then-from-job : goal.returns-then-from-job
returns-then-from-job g c =
    bad_header g.R.Ring.exact (job_numbers g.R.Ring.exact g.R.Ring.value c.args.job.now) c.args.file.now c.from.result c.from-count.result c.in-len3-up.len_at_least c.from.ensures (c.from-count.ensures ∙ c.from_be_bytes.ensures) (either c.then-from-job.either)

pub returns : goal.returns
returns g c = (
  c.in-len3-up.len_at_least,
  c.if-count-gt-MOST_PIECES.false,
  good_header g.R.Ring.exact (job_numbers g.R.Ring.exact g.R.Ring.value c.args.job.now) c.args.file.now c.from.result c.from-count.result c.in-len3-up.len_at_least c.from.ensures (c.from-count.ensures ∙ c.from_be_bytes.ensures) c.if-from-job.false c.if-count-gt-MOST_PIECES.false,
)
