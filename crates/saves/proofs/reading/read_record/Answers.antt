use Rattle.std.proofs.Common.{[], ◌∷◌, ◌++◌, get_or, Some, sym, refl, ap, ap₂, ◌∙◌}
use Rattle.chains.specs.Addresses.{advance}
use Rattle.calls.specs.Records.{row_view}
use Rattle.calls.specs.Sheets.{come_to}
use Rattle.calls.specs.Views.{cursor_view, cursor_at}
use Rattle.files.specs.Judging.{record_read}
use Rattle.saves.specs.Records.{deeper, closed_at}
use Rattle.saves.proofs.Taken.{sheet, no_byte, nothing_pending_there, too_deep, not_closed, not_written, is_read}
use Rattle.saves.proofs.reading.read_record.Goals as goal

pub returns-in_default-clause-answer : goal.returns-in_default-clause-answer
returns-in_default-clause-answer g c s rs room = no_byte g.P.R.Ring.exact (g.P.Placer.plan c.args.placer.now) _ c.args.bytes.now c.in_default.len_below

pub returns-in_err-cursor-clause-answer : goal.returns-in_err-cursor-clause-answer
returns-in_err-cursor-clause-answer g c s rs room =
    let E = g.P.R.Ring.exact in
    let N = g.P.Placer.plan c.args.placer.now in
    let bytes = c.args.bytes.now in
    rw c.from_residual.ensures
    (ap (λ o. record_read E N (sheet E N (cursor_at o) rs) bytes) c.in_err-cursor.was ∙ nothing_pending_there E N rs bytes (get_or bytes 0 0) c.in-len1-up.len_at_least refl)

pub returns-in_err-at-clause-answer : goal.returns-in_err-at-clause-answer
returns-in_err-at-clause-answer g c s rs room =
    let E = g.P.R.Ring.exact in
    let N = g.P.Placer.plan c.args.placer.now in
    let bytes = c.args.bytes.now in
    let from = cursor_view c.in_ok-cursor.field-0 in
    let deep = ap₂ (λ depth n. deeper depth n from) (sym (ap (λ M. M.depth) c.job.ensures)) (sym c.descents_in.ensures) ∙ sym c.in_err-at.ensures in
    rw c.from_residual-in_err-at.ensures
    (ap (λ o. record_read E N (sheet E N (cursor_at o) rs) bytes) c.in_ok-cursor.was ∙ too_deep E N rs bytes (get_or bytes 0 0) c.in-len1-up.len_at_least refl from room deep)

pub returns-in_err-row-clause-answer : goal.returns-in_err-row-clause-answer
returns-in_err-row-clause-answer g c s rs room =
    let E = g.P.R.Ring.exact in
    let N = g.P.Placer.plan c.args.placer.now in
    let bytes = c.args.bytes.now in
    let from = cursor_view c.in_ok-cursor.field-0 in
    let at = cursor_view c.in_ok-at.at in
    let deep = ap₂ (λ depth n. deeper depth n from) (sym (ap (λ M. M.depth) c.job.ensures)) (sym c.descents_in.ensures) ∙ sym c.in_ok-at.ensures in
    rw c.from_residual-in_err-row.ensures
    (ap (λ o. record_read E N (sheet E N (cursor_at o) rs) bytes) c.in_ok-cursor.was
    ∙ not_closed E N rs bytes (get_or bytes 0 0) c.in-len1-up.len_at_least refl from room at deep (ap (closed_at E N at) (sym c.is_aside.ensures) ∙ c.in_err-row.ensures.answer s))

pub returns-in_err-rest-clause-answer : goal.returns-in_err-rest-clause-answer
returns-in_err-rest-clause-answer g c s rs room =
    let E = g.P.R.Ring.exact in
    let N = g.P.Placer.plan c.args.placer.now in
    let bytes = c.args.bytes.now in
    let from = cursor_view c.in_ok-cursor.field-0 in
    let at = cursor_view c.in_ok-at.at in
    let deep = ap₂ (λ depth n. deeper depth n from) (sym (ap (λ M. M.depth) c.job.ensures)) (sym c.descents_in.ensures) ∙ sym c.in_ok-at.ensures in
    rw c.from_residual-in_err-rest.ensures
    (ap (λ o. record_read E N (sheet E N (cursor_at o) rs) bytes) c.in_ok-cursor.was
    ∙ not_written E N rs bytes (get_or bytes 0 0) c.in-len1-up.len_at_least refl from room at deep (row_view E g.P.R.Ring.listed c.in_ok-row.row) (ap (closed_at E N at) (sym c.is_aside.ensures) ∙ c.in_ok-row.ensures.answer s) c.in_err-rest.ensures)

pub returns-clause-answer : goal.returns-clause-answer
returns-clause-answer g c s rs room =
    let E = g.P.R.Ring.exact in
    let N = g.P.Placer.plan c.args.placer.now in
    let bytes = c.args.bytes.now in
    let from = cursor_view c.in_ok-cursor.field-0 in
    let at = cursor_view c.in_ok-at.at in
    let row = row_view E g.P.R.Ring.listed c.in_ok-row.row in
    let deep = ap₂ (λ depth n. deeper depth n from) (sym (ap (λ M. M.depth) c.job.ensures)) (sym c.descents_in.ensures) ∙ sym c.in_ok-at.ensures in
    let on = c.advanced.ensures ∙ ap (λ M. come_to (advance M at.node)) (c.job-2.ensures ∙ c.in_ok-row.ensures.kept) in
    ap (λ o. record_read E N (sheet E N (cursor_at o) rs) bytes) c.in_ok-cursor.was
    ∙ is_read E N rs bytes (get_or bytes 0 0) c.in-len1-up.len_at_least refl from room at deep row c.in_ok-rest.rest.now (ap (closed_at E N at) (sym c.is_aside.ensures) ∙ c.in_ok-row.ensures.answer s) c.in_ok-rest.ensures
    ∙ ap (λ o. Some (sheet E N o (rs ++ row ∷ []))) (sym on)
