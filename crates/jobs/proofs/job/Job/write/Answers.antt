use Rattle.std.proofs.Common.{◌<◌, ◌++◌, length, drop, refl, ap, subst, ◌∙◌}
use Rattle.jobs.proofs.Wholes.{never_full, on_sheet}
use Rattle.jobs.proofs.job.Job.write.Goals as goal

pub returns-in_err-put : goal.returns-in_err-put
returns-in_err-put c = absurd (never_full c.args.self.now _ c.new-sheet.ensures c.in_err-put.ensures)

pub returns-then-text-buffer : goal.returns-then-text-buffer
returns-then-text-buffer c =
    let text = c.as_slice-text.ensures.value ∙ on_sheet c.args.self.now _ _ c.new-sheet.ensures c.in_ok-put.ensures in
    (subst (λ t. length c.args.buffer.now < length t) text c.if-text-buffer.true, refl)

pub returns : goal.returns
returns c =
    let text = c.as_slice-text.ensures.value ∙ on_sheet c.args.self.now _ _ c.new-sheet.ensures c.in_ok-put.ensures in
    (ap length text, c.if-text-buffer.false, ap (λ t. t ++ drop (length c.as_slice-text.result.now) c.args.buffer.now) (c.copy_from_slice.ensures.after ∙ text))
