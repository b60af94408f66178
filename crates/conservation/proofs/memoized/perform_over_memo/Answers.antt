use Rattle.std.proofs.Common.{◌≡◌, List, length, map, take, Some, None, MatchOption, MatchResult, sym, ap, ◌∙◌, subst}
use Rattle.chains.specs.Books.{book_of}
use Rattle.ring_jobs.specs.RingJobs.{job_numbers}
use Rattle.ring_jobs.specs.declared.job.RingJob.{RingJob}
use Rattle.calls.specs.Records.{records}
use Rattle.calls.specs.Views.{sheet_of}
use Rattle.calls.specs.declared.cursor.Cursor.{Cursor}
use Rattle.placer.specs.Memory.{Right}
use Rattle.runs.specs.Runs.{Call, begun, run}
use Rattle.sheet.specs.declared.fault.SheetFault.TheVariants.{StillPending}
use Rattle.conservation.specs.Answered.{call_view, Makes}
use Rattle.conservation.specs.Law.{ReadsSo, Conserves}
use Rattle.conservation.proofs.memoized.perform_over_memo.Goals as goal

pub returns-clause-law : goal.returns-clause-law
returns-clause-law g c =
    let E = g.R.Ring.exact in let v = g.R.Ring.value in
    let same = ap (λ d. d.job) c.new-placer.ensures.0 ∙ c.new.ensures in
    subst (λ (j : RingJob _). MatchResult c.perform.result (λ x. Conserves E (job_numbers E v j) g.M.Meter.group (g.M.Meter.reads c.args.meter.now E v (book_of E (job_numbers E v j))) (length c.args.list.now) (map (call_view (length c.args.buffer.now)) c.args.calls.now)) (λ x. Unit {0}))
    same c.perform.ensures.law

pub returns-clause-runs : goal.returns-clause-runs
returns-clause-runs g c =
    let E = g.R.Ring.exact in let v = g.R.Ring.value in let f = g.R.Ring.listed in
    let same = ap (λ d. d.job) c.new-placer.ensures.0 ∙ c.new.ensures in
    let right = subst (λ h. Right E v (job_numbers E v c.new-placer.result.lower.job) h) (sym c.new-placer.ensures.1) tt in
    let room = length c.args.list.now in
    let cs : List Call = map (call_view (length c.args.buffer.now)) c.args.calls.now in
    let xs = take (length c.args.calls.now) c.perform.new.answers in
    subst (λ (j : RingJob _). let N = job_numbers E v j in MatchResult c.perform.result
    (λ e. MatchResult e.sheet
    (λ h. Makes E v N room cs (record { cursor = None; records = records E f h.count c.perform.new.list }) h.count xs c.args.buffer.now c.perform.new.buffer
    × MatchOption e.reading ⊥ (λ x. ReadsSo E N g.M.Meter.group (g.M.Meter.reads c.args.meter.now E v (book_of E N)) (run E N room cs (begun E N)) (g.M.Meter.worth x)))
    (λ u. Makes E v N room cs (sheet_of E f u.sheet.cursor u.sheet.count c.perform.new.list) u.sheet.count xs c.args.buffer.now c.perform.new.buffer × ((k : Cursor) × (u.sheet.cursor ≡ Some k)) × (u.fault ≡ StillPending)))
    (λ u. Unit {0}))
    same (c.perform.ensures.runs (tt, right))
