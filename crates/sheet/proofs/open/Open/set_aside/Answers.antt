use Rattle.std.proofs.Common.{◌≡◌, length, set, Some, None, sym, refl, ap, ◌∙◌, subst}
use Rattle.nodes.specs.Views.{address_view}
use Rattle.calls.specs.Limits.{usable}
use Rattle.calls.specs.Records.{records}
use Rattle.calls.specs.Sheets.{Sheet, AtNode, set_aside}
use Rattle.calls.specs.Views.{sheet_of, cursor_at, cursor_view}
use Rattle.calls.proofs.Staying.{stays}
use Rattle.calls.specs.declared.row.Row.{Row}
use Rattle.sheet.proofs.Refusing.{passes_on, does, aside_nowhere, aside_full, aside_on}
use Rattle.sheet.proofs.Recording.{room_left, no_room_left, one_more}
use Rattle.sheet.proofs.open.Open.set_aside.Goals as goal

pub returns-in_err-cursor-clause-does : goal.returns-in_err-cursor-clause-does
returns-in_err-cursor-clause-does g c =
    let E = g.P.R.Ring.exact in let o = c.args.self.now in let N = g.P.Placer.plan o.placer in let list = c.args.list.now in
    let s : Sheet E = sheet_of E g.P.R.Ring.listed o.cursor o.count list in
    let h = c.in_err-cursor.ensures in
    passes_on E (set_aside E N (usable (length list)) s) _ _ s c.from_residual.result c.in_err-cursor.field-0.0 (aside_nowhere E N s _ (ap cursor_at h.1)) c.from_residual.ensures.1 h.0

pub returns-in_err-free_place-clause-does : goal.returns-in_err-free_place-clause-does
returns-in_err-free_place-clause-does g c =
    let E = g.P.R.Ring.exact in let o = c.args.self.now in let N = g.P.Placer.plan o.placer in let list = c.args.list.now in
    let s : Sheet E = sheet_of E g.P.R.Ring.listed o.cursor o.count list in
    let h = c.in_err-free_place.ensures in
    passes_on E (set_aside E N (usable (length list)) s) _ _ s c.from_residual-in_err-free_place.result c.in_err-free_place.field-0.0
    (aside_full E N s _ (cursor_view c.in_ok-cursor.cursor) (ap cursor_at c.in_ok-cursor.ensures) (no_room_left E g.P.R.Ring.listed list o.count h.1)) c.from_residual-in_err-free_place.ensures.1 h.0

pub returns-clause-does : goal.returns-clause-does
returns-clause-does g c =
    let E = g.P.R.Ring.exact in let f = g.P.R.Ring.listed in let o = c.args.self.now in let N = g.P.Placer.plan o.placer in let list = c.args.list.now in
    let s : Sheet E = sheet_of E f o.cursor o.count list in
    let r = c.record.ensures in
    let row : Row _ = record { descents = c.in_ok-cursor.cursor.descents; laid = None } in
    does E (set_aside E N (usable (length list)) s) _ _ _ s _ _
    (aside_on E N s _ (cursor_view c.in_ok-cursor.cursor) (ap cursor_at c.in_ok-cursor.ensures) (room_left E f list o.count c.in_ok-free_place.ensures))
    (λ i. record { cursor = r.moved i; records = (ap (λ l. records E f c.record.new.self.count l) r.listed ∙ ap (λ n. records E f n (set list o.count row)) r.counted ∙ one_more E f list o.count row c.in_ok-free_place.ensures) i }) tt

pub returns-clause-node : goal.returns-clause-node
returns-clause-node g c at =
    let o = c.args.self.now in let N = g.P.Placer.plan o.placer in
    subst (AtNode N) (sym c.record.ensures.moved) (stays N (address_view c.in_ok-cursor.cursor.node) (subst (AtNode N) (ap cursor_at c.in_ok-cursor.ensures) at))
