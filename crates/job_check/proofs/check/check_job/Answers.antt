use Rattle.std.proofs.Common.{sym, ◌∙◌, subst}
use Rattle.chains.specs.Accepted.{Accepted}
use Rattle.book.specs.Points.{WorkedOnThePlane}
use Rattle.ring_jobs.specs.RingJobs.{OfTheRing, job_numbers}
use Rattle.ring_jobs.proofs.Booked.{book_is, order_is, rank_is}
use Rattle.job_check.proofs.Checking.{handed}
use Rattle.job_check.proofs.check.check_job.Goals as goal

pub returns-then-job-N : goal.returns-then-job-N
returns-then-job-N g c = λ o.
    let E = g.R.Ring.exact in let v = g.R.Ring.value in
    c.if-job-N.true (sym (order_is E g.met.R.Ring.lawful v c.args.job.now) ∙ o.0 ∙ sym (c.N.ensures ∙ g.met.R.Ring.counts_turns))

pub returns-then-job-D : goal.returns-then-job-D
returns-then-job-D g c = λ o.
    let E = g.R.Ring.exact in let v = g.R.Ring.value in
    c.if-job-D.true (sym (rank_is E g.met.R.Ring.lawful v c.args.job.now) ∙ o.1 ∙ sym (c.D.ensures ∙ g.met.R.Ring.counts_coefficients))

pub returns-in_err-check : goal.returns-in_err-check
returns-in_err-check g c =
    let E = g.R.Ring.exact in let v = g.R.Ring.value in let L = g.met.R.Ring.lawful in
    let j = c.args.job.now in
    let o : OfTheRing E (job_numbers E v j) = (order_is E L v j ∙ c.if-job-N.false ∙ c.N.ensures ∙ g.met.R.Ring.counts_turns, rank_is E L v j ∙ c.if-job-D.false ∙ c.D.ensures ∙ g.met.R.Ring.counts_coefficients) in
    handed E v (job_numbers E v j) c.from_residual.result _ _ _ (sym (book_is E L v j)) o c.in_err-check.ensures.first.is c.in_err-check.ensures.decides c.from_residual.ensures.1

pub returns : goal.returns
returns g c =
    let E = g.R.Ring.exact in let v = g.R.Ring.value in let L = g.met.R.Ring.lawful in
    let j = c.args.job.now in
    let d = c.in_ok-check.ensures.decides in
    let e = sym (book_is E L v j) in
    record {
      judged = record {
        of_the_ring = (order_is E L v j ∙ c.if-job-N.false ∙ c.N.ensures ∙ g.met.R.Ring.counts_turns, rank_is E L v j ∙ c.if-job-D.false ∙ c.D.ensures ∙ g.met.R.Ring.counts_coefficients);
        accepted = subst (Accepted E) e d.0;
      };
      kept = subst (WorkedOnThePlane E) e d.1;
    }
