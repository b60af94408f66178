use Rattle.std.proofs.Common.{◌≡◌, ◌≤◌, length, Ok, sym, refl, ap, ◌∙◌, arith}
use Rattle.calls.specs.Limits.{usable}
use Rattle.calls.specs.Sheets.{Sheet}
use Rattle.calls.proofs.Firsts.{refused_with}
use Rattle.files.specs.Judging.{judged}
use Rattle.saves.specs.Records.{sheet_with}
use Rattle.saves.proofs.Rooms.{no_file, too_many, enough, all_records, filled_sheet, behind, same_sheet}
use Rattle.saves.proofs.resuming.resume.Goals as goal

pub returns-in_err-judged-clause-answer : goal.returns-in_err-judged-clause-answer
returns-in_err-judged-clause-answer g c s =
    let h = c.in_err-judged.ensures.answer s in
    refused_with c.from_residual.result _ _ _ c.from_residual.ensures.1 (no_file g.P.R.Ring.exact (g.P.Placer.plan c.args.placer.now) (usable (length c.args.list.now)) c.args.file.now _ h.0 h.1, refl)

pub returns-then-judged-min-clause-answer : goal.returns-then-judged-min-clause-answer
returns-then-judged-min-clause-answer g c s =
    let h = c.in_ok-judged.ensures.answer s in
    (too_many g.P.R.Ring.exact (g.P.Placer.plan c.args.placer.now) (usable (length c.args.list.now)) c.args.file.now h.0 h.2 (omega (arith, h.4, c.if-judged-min.true, c.min.ensures)), refl)

pub returns-clause-answer : goal.returns-clause-answer
returns-clause-answer g c s =
    let E = g.P.R.Ring.exact in
    let N = g.P.Placer.plan c.args.placer.now in
    let file = c.args.file.now in
    let old = c.args.list.now in
    let new = c.scan.new.list in
    let j = c.in_ok-scan.field-0 in
    let h = c.in_ok-judged.ensures.answer s in
    let k = c.in_ok-scan.ensures.answer (c.in_ok-judged.ensures.sound s) in
    let again : judged E N file ≡ Ok (sheet_with E j.cursor k.0) = ap (λ M. judged E M file) (sym c.in_ok-judged.ensures.kept) ∙ k.1 in
    let same = same_sheet (judged E N file) h.0 (sheet_with E j.cursor k.0) h.1 again in
    let few : length h.0.records ≤ usable (length old) = omega (arith, h.4, c.if-judged-min.false, c.min.ensures) in
    let room : j.count ≤ usable (length old) = omega (arith, ap (λ (t : Sheet E). length t.records) same, k.2) in (
      enough E N (usable (length old)) file h.0 h.2 few ∙ ap Ok (same ∙ sym (filled_sheet E g.P.R.Ring.listed k.0 old new j.count k.2 room k.3 j.cursor)),
      ap length (all_records E g.P.R.Ring.listed k.0 old new j.count k.2 room k.3) ∙ sym k.2,
      behind E g.P.R.Ring.listed k.0 old new j.count k.2 room k.3,
    )
