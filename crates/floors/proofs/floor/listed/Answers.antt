-- A memo that is just made over a job is sound, and its plan is the job's numbers; so the job is laid whole, or up to a piece that cannot be.
use Rattle.std.proofs.Common.{◌≡◌, length, sym, ap, ◌∙◌, subst}
use Rattle.ring_jobs.specs.RingJobs.{job_numbers}
use Rattle.placer.specs.Memory.{Right}
use Rattle.whole_jobs.specs.Job.{LaysWhole, LaysNotWhole}
use Rattle.cutting.specs.Printed.{Prints}
use Rattle.calls.specs.Records.{records}
use Rattle.floors.proofs.Listing.{printed, stopped}
use Rattle.floors.proofs.floor.listed.Goals as goal

pub returns-in-Ok : goal.returns-in-Ok
returns-in-Ok g c =
    let E = g.R.Ring.exact in let v = g.R.Ring.value in let f = g.R.Ring.listed in let m = c.new-placer.result in let N = job_numbers E v c.args.job in
    let n = c.in-Ok.finished.count in let xs = c.args.list.now in let ys = c.lay_job.new.list in
    let e : job_numbers E v m.lower.job ≡ N = ap (λ d. job_numbers E v d.job) c.new-placer.ensures.0 ∙ ap (job_numbers E v) c.new.ensures in
    let held = subst (Right E v (job_numbers E v m.lower.job)) (sym c.new-placer.ensures.1) tt in
    let lays = subst (λ M. LaysWhole E M f n xs ys) e (c.in-Ok.ensures.lays (tt, held)) in
    printed E N v f n xs ys lays c.args.text.now c.cutting_list-length.new.buffer c.cutting_list-length.result
    (subst (λ M. Prints E M (length ys) n (records E f n ys) c.args.text.now c.cutting_list-length.new.buffer c.cutting_list-length.result) (c.in-Ok.ensures.kept ∙ e) c.cutting_list-length.ensures)

pub returns-in-Err : goal.returns-in-Err
returns-in-Err g c =
    let E = g.R.Ring.exact in let v = g.R.Ring.value in let f = g.R.Ring.listed in let m = c.new-placer.result in let N = job_numbers E v c.args.job in
    let xs = c.args.list.now in let ys = c.lay_job.new.list in
    let e : job_numbers E v m.lower.job ≡ N = ap (λ d. job_numbers E v d.job) c.new-placer.ensures.0 ∙ ap (job_numbers E v) c.new.ensures in
    let held = subst (Right E v (job_numbers E v m.lower.job)) (sym c.new-placer.ensures.1) tt in
    stopped E N v f c.in-Err.stopped.fault xs ys (length c.args.text.now) (subst (λ M. LaysNotWhole E M f v c.in-Err.stopped.fault xs ys) e (c.in-Err.ensures.lays (tt, held)))
