-- The job over the ring is the job as it was read, if the check passes it: its lists then have the ring's number of coefficients.
use Rattle.std.proofs.Common.{◌≡◌, ◌<◌, ◌≤◌, length, drop, sym, ap, ◌∙◌, subst, rules}
use Rattle.exact.specs.JobNumbers.{JobNumbers}
use Rattle.jobs.specs.Ranges.{InRange}
use Rattle.jobs.specs.Jobs.{numbers}
use Rattle.job_check.proofs.Checking.{same_job, same_ring_back}
use Rattle.ring_jobs.specs.RingJobs.{job_numbers}
use Rattle.ring_jobs.specs.Fitted.{fitted_job}
use Rattle.ring_jobs.proofs.Branches.{branching}
use Rattle.calls.specs.Limits.{usable, most_pieces}
use Rattle.floors.specs.Floors.{floor_list, most_bytes, AllLaid}
use Rattle.floors.proofs.Short.{never_too_long}
use Rattle.floors.proofs.Listing.{cut, in_lent}
use Rattle.floors.proofs.floor.cutting_list_of.Goals as goal

pub returns-in_err-length : goal.returns-in_err-length
returns-in_err-length g c =
    let E = g.R.Ring.exact in let v = g.R.Ring.value in let j = c.args.job.now in
    let N = numbers j in let N' = job_numbers E v c.in_ok-over.over in
    let rows : length c.as_mut_slice.result.now ≡ most_pieces = search rules in
    let bytes : length c.as_mut_slice-2.result.now ≡ most_bytes = search rules in
    let short : AllLaid E N' most_pieces → most_bytes < length (floor_list E N') → ⊥ = λ l.
    let same = same_job E N N' c.in_ok-over.ensures j.in_range (same_ring_back E N N' c.in_ok-over.ensures l.passes.judged.of_the_ring) in
    never_too_long E g.met.R.Ring.lawful N' (branching E v c.in_ok-over.over) (subst (λ (M : JobNumbers). ∥ InRange M ∥₁) (sym same) j.in_range) l in
    in_lent E N' (fitted_job E.d N) v _ _ c.in_ok-over.ensures rows bytes short
    c.in_err-length.field-0.0 c.in_err-length.ensures _ c.from_residual-in_err-length.result c.from_residual-in_err-length.ensures.1

pub returns : goal.returns
returns g c =
    let E = g.R.Ring.exact in let N = numbers c.args.job.now in let N' = job_numbers E g.R.Ring.value c.in_ok-over.over in
    let a = c.in_ok-length.ensures in let text = c.in_ok-text.text in
    let rows : length c.as_mut_slice.result.now ≡ most_pieces = search rules in
    let e : N' ≡ N = same_job E N N' c.in_ok-over.ensures c.args.job.now.in_range (same_ring_back E N N' c.in_ok-over.ensures a.0.passes.judged.of_the_ring) in
    let room : c.in_ok-length.length ≤ text.len = search rules in (
      subst (λ M. AllLaid E M most_pieces) e (subst (λ n. AllLaid E N' (usable n)) rows a.0),
      cut c.in_ok-length.length text.len (floor_list E N') c.listed.new.text (drop c.in_ok-length.length c.as_mut_slice-2.result.now) (drop (length c.listed.new.text) text.items)
          c.truncate.new.self.items a.1 room a.3 c.truncate.ensures.items ∙ ap (floor_list E) e,
    )
