use Rattle.std.proofs.Common.{sym, subst}
use Rattle.exact.specs.JobNumbers.{JobNumbers}
use Rattle.book.specs.Points.{WorkedOnThePlane}
use Rattle.chains.specs.Books.{book_of}
use Rattle.jobs.specs.Jobs.{numbers}
use Rattle.ring_jobs.specs.RingJobs.{OfTheRing, job_numbers}
use Rattle.ring_jobs.proofs.Shaping.{mapped}
use Rattle.job_check.specs.Checks.{Judged}
use Rattle.job_check.proofs.Checking.{no_room, same_job, same_ring_back, stays_on_the_plane, usable_or_not, handed_back}
use Rattle.job_check.proofs.check.judged.Goals as goal

pub returns-in_err-over : goal.returns-in_err-over
returns-in_err-over g c =
    no_room g.R.Ring.exact g.R.Ring.value (numbers c.args.job.now) c.from_residual.result _ _ c.in_err-over.ensures c.from_residual.ensures.1

pub returns-in_err-check_job : goal.returns-in_err-check_job
returns-in_err-check_job g c =
    let E = g.R.Ring.exact in let v = g.R.Ring.value in let L = g.met.R.Ring.lawful in
    let j = c.args.job.now in let N = numbers j in let N' = job_numbers E v c.in_ok-over.over in
    let e = c.in_ok-over.ensures in
    let plane : OfTheRing E N' → ∥ WorkedOnThePlane E (book_of E N') ∥₁ = λ o.
    let q = same_ring_back E N N' e o in
    subst (λ (M : JobNumbers). ∥ WorkedOnThePlane E (book_of E M) ∥₁) (sym (same_job E N N' e j.in_range q)) (mapped (λ r. stays_on_the_plane E v N L r q g.met.R.SmallRing.small) j.in_range) in
    handed_back E v N N' e j.in_range c.from_residual-in_err-check_job.result _ c.in_err-check_job.field-0.0 (usable_or_not E v N' plane c.in_err-check_job.field-0.0 c.in_err-check_job.ensures) c.from_residual-in_err-check_job.ensures.1

pub returns : goal.returns
returns g c =
    let E = g.R.Ring.exact in let v = g.R.Ring.value in
    let j = c.args.job.now in let N = numbers j in let N' = job_numbers E v c.in_ok-over.over in
    let p = c.in_ok-check_job.ensures.judged in
    let s = same_job E N N' c.in_ok-over.ensures j.in_range (same_ring_back E N N' c.in_ok-over.ensures p.of_the_ring) in
    (s, subst (Judged E) s p)
