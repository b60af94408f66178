use Rattle.std.proofs.Common.{◌≡◌, ◌≤◌, drop, Ok, sym, ◌∙◌, subst}
use Rattle.jobs.specs.Limits.{most_depth}
use Rattle.calls.specs.Sheets.{start}
use Rattle.files.specs.Judging.{scanned, judged}
use Rattle.saves.specs.Records.{sheet_with}
use Rattle.saves.proofs.Pieces.{shallow}
use Rattle.saves.proofs.judging.scan.Goals as goal

pub returns-in_default-clause-shallow : goal.returns-in_default-clause-shallow
returns-in_default-clause-shallow g c = subst (λ M. M.depth ≤ most_depth) c.job.ensures (shallow c.job.result.now)

pub returns-in_err-reached-clause-shallow : goal.returns-in_err-reached-clause-shallow
returns-in_err-reached-clause-shallow g c = subst (λ M. M.depth ≤ most_depth) c.job.ensures (shallow c.job.result.now)

pub returns-in_err-cursor-clause-shallow : goal.returns-in_err-cursor-clause-shallow
returns-in_err-cursor-clause-shallow g c = subst (λ M. M.depth ≤ most_depth) c.job.ensures (shallow c.job.result.now)

pub returns-clause-shallow : goal.returns-clause-shallow
returns-clause-shallow g c = subst (λ M. M.depth ≤ most_depth) c.job.ensures (shallow c.job.result.now)

pub returns-clause-answer : goal.returns-clause-answer
returns-clause-answer g c s =
    let E = g.P.R.Ring.exact in
    let N = g.P.Placer.plan c.args.placer.now in
    let file = c.args.file.now in
    let led = c.in_ok-reached.ensures.answer s in
    let reached = c.in_ok-reached.reached in
    let begun = subst (λ M. judged E M file ≡ scanned E M c.in-Some.count 3 (start E M) (drop 3 file)) c.job.ensures c.in-Some.ensures.2 in
    let end = subst (λ M. scanned E M 0 reached.at (sheet_with E reached.cursor led.0) (drop reached.at file) ≡ Ok (sheet_with E c.in_ok-cursor.cursor led.0)) (c.job-2.ensures ∙ c.in_ok-reached.ensures.kept) (c.in_ok-cursor.ensures led.0) in
    (led.0, begun ∙ led.2 ∙ end, sym led.1, led.3)
