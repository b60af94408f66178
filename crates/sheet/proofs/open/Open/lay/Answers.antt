use Rattle.std.proofs.Common.{◌≡◌, [], ◌∷◌, ◌++◌, length, take, set, Some, None, sym, refl, ap, ◌∙◌, subst, arith}
use Rattle.std.proofs.lemmas.List.{length-take-le}
use Rattle.edges.specs.Views.{placement_view}
use Rattle.ring_jobs.proofs.Booked.{depth_is}
use Rattle.nodes.specs.Table.{Entry, there}
use Rattle.nodes.specs.Views.{address_view, fault_entry}
use Rattle.calls.specs.Limits.{usable}
use Rattle.calls.specs.Records.{records}
use Rattle.chains.specs.Addresses.{advance}
use Rattle.calls.specs.Sheets.{Sheet, AtNode, come_to, lay_by}
use Rattle.calls.specs.Views.{sheet_of, cursor_at, cursor_view}
use Rattle.calls.specs.declared.row.Row.{Row}
use Rattle.calls.proofs.Staying.{stays}
use Rattle.sheet.specs.Answers.{entry_at}
use Rattle.sheet.specs.declared.fault.SheetFault.TheVariants.{Place}
use Rattle.sheet.proofs.Refusing.{why_faults, why_refuses, refuses, passes_on, does, lay_nowhere, lay_high, lay_full, lay_on, tabled, tabled_is}
use Rattle.sheet.proofs.Recording.{room_left, no_room_left, one_more}
use Rattle.sheet.proofs.open.Open.lay.Goals as goal

pub returns-in_err-cursor-clause-lays : goal.returns-in_err-cursor-clause-lays
returns-in_err-cursor-clause-lays g c =
    let E = g.P.R.Ring.exact in let o = c.args.self.now in let N = g.P.Placer.plan o.placer in let list = c.args.list.now in
    let s : Sheet E = sheet_of E g.P.R.Ring.listed o.cursor o.count list in
    let x = tabled E N s.cursor in
    let h = c.in_err-cursor.ensures in
    (x, λ _. tabled_is E g.P.R.Ring.value N s.cursor, passes_on E (lay_by E N (usable (length list)) (λ a. x) s) _ _ s c.from_residual.result c.in_err-cursor.field-0.0 (lay_nowhere E N s _ x (ap cursor_at h.1)) c.from_residual.ensures.1 h.0)

pub returns-then-from-job-clause-lays : goal.returns-then-from-job-clause-lays
returns-then-from-job-clause-lays g c =
    let E = g.P.R.Ring.exact in let o = c.args.self.now in let N = g.P.Placer.plan o.placer in let list = c.args.list.now in
    let s : Sheet E = sheet_of E g.P.R.Ring.listed o.cursor o.count list in
    let x = tabled E N s.cursor in
    let node = c.in_ok-cursor.cursor.node in
    let depth : N.depth ≡ c.job.result.now.depth = ap (λ M. M.depth) (sym c.job.ensures) ∙ depth_is E g.met.P.R.Ring.lawful g.P.R.Ring.value c.job.result.now in
    let level : length (take node.level node.path) ≡ node.level = length-take-le node.level node.path (omega arith) in
    let high : length (take node.level node.path) ≡ N.depth → ⊥ = λ e. omega (arith, e, depth, level, c.from.ensures, c.if-from-job.true) in
    (x, λ _. tabled_is E g.P.R.Ring.value N s.cursor, refuses E (lay_by E N (usable (length list)) (λ a. x) s) _ _ s s _ (lay_high E N s _ x (cursor_view c.in_ok-cursor.cursor) (ap cursor_at c.in_ok-cursor.ensures) high) refl refl)

pub returns-in_err-free_place-clause-lays : goal.returns-in_err-free_place-clause-lays
returns-in_err-free_place-clause-lays g c =
    let E = g.P.R.Ring.exact in let o = c.args.self.now in let N = g.P.Placer.plan o.placer in let list = c.args.list.now in
    let s : Sheet E = sheet_of E g.P.R.Ring.listed o.cursor o.count list in
    let x = tabled E N s.cursor in
    let node = c.in_ok-cursor.cursor.node in
    let depth : N.depth ≡ c.job.result.now.depth = ap (λ M. M.depth) (sym c.job.ensures) ∙ depth_is E g.met.P.R.Ring.lawful g.P.R.Ring.value c.job.result.now in
    let level : length (take node.level node.path) ≡ node.level = length-take-le node.level node.path (omega arith) in
    let deep : length (take node.level node.path) ≡ N.depth = omega (arith, depth, level, c.from.ensures, c.if-from-job.false) in
    let h = c.in_err-free_place.ensures in (
      x,
      λ _. tabled_is E g.P.R.Ring.value N s.cursor,
      passes_on E (lay_by E N (usable (length list)) (λ a. x) s) _ _ s c.from_residual-in_err-free_place.result c.in_err-free_place.field-0.0
          (lay_full E N s _ x (cursor_view c.in_ok-cursor.cursor) (ap cursor_at c.in_ok-cursor.ensures) deep (no_room_left E g.P.R.Ring.listed list o.count h.1)) c.from_residual-in_err-free_place.ensures.1 h.0,
    )

pub returns-in_err-placed-clause-lays : goal.returns-in_err-placed-clause-lays
returns-in_err-placed-clause-lays g c =
    let E = g.P.R.Ring.exact in let v = g.P.R.Ring.value in let o = c.args.self.now in let N = g.P.Placer.plan o.placer in let list = c.args.list.now in
    let s : Sheet E = sheet_of E g.P.R.Ring.listed o.cursor o.count list in
    let f = c.in_err-placed.field-0.0 in
    let x = fault_entry E f in
    let node = c.in_ok-cursor.cursor.node in
    let depth : N.depth ≡ c.job.result.now.depth = ap (λ M. M.depth) (sym c.job.ensures) ∙ depth_is E g.met.P.R.Ring.lawful v c.job.result.now in
    let level : length (take node.level node.path) ≡ node.level = length-take-le node.level node.path (omega arith) in
    let deep : length (take node.level node.path) ≡ N.depth = omega (arith, depth, level, c.from.ensures, c.if-from-job.false) in
    let at = ap cursor_at c.in_ok-cursor.ensures in
    let here = cursor_view c.in_ok-cursor.cursor in (
      x,
      λ k. subst (λ q. entry_at E v N q x) (sym at) (c.in_err-placed.ensures.answer k),
      passes_on E (lay_by E N (usable (length list)) (λ a. x) s) _ _ s c.from_residual-in_err-placed.result (Place f)
          (lay_on E N s _ x here at deep (room_left E g.P.R.Ring.listed list o.count c.in_ok-free_place.ensures) ∙ why_refuses E N s here f) c.from_residual-in_err-placed.ensures.1 (why_faults f),
    )

pub returns-clause-lays : goal.returns-clause-lays
returns-clause-lays g c =
    let E = g.P.R.Ring.exact in let v = g.P.R.Ring.value in let l = g.P.R.Ring.listed in let o = c.args.self.now in let N = g.P.Placer.plan o.placer in let list = c.args.list.now in
    let s : Sheet E = sheet_of E l o.cursor o.count list in
    let x : Entry E = there (placement_view E v c.in_ok-placed.placed) in
    let node = c.in_ok-cursor.cursor.node in
    let depth : N.depth ≡ c.job.result.now.depth = ap (λ M. M.depth) (sym c.job.ensures) ∙ depth_is E g.met.P.R.Ring.lawful v c.job.result.now in
    let level : length (take node.level node.path) ≡ node.level = length-take-le node.level node.path (omega arith) in
    let deep : length (take node.level node.path) ≡ N.depth = omega (arith, depth, level, c.from.ensures, c.if-from-job.false) in
    let at = ap cursor_at c.in_ok-cursor.ensures in
    let here = cursor_view c.in_ok-cursor.cursor in
    let r = c.record.ensures in
    let row : Row _ = record { descents = c.in_ok-cursor.cursor.descents; laid = Some c.plain_piece.result } in
    let counted = ap (λ rs. records E l c.record.new.self.count rs) r.listed ∙ ap (λ n. records E l n (set list o.count row)) r.counted ∙ one_more E l list o.count row c.in_ok-free_place.ensures
    ∙ ap (λ p. records E l o.count list ++ (record { descents = c.in_ok-cursor.cursor.descents; laid = Some p } ∷ [])) c.plain_piece.ensures in
    let moved = r.moved ∙ ap (λ M. come_to (advance M (address_view node))) c.in_ok-placed.ensures.kept in (
      x,
      λ k. subst (λ q. entry_at E v N q x) (sym at) (c.in_ok-placed.ensures.answer k),
      does E (lay_by E N (usable (length list)) (λ a. x) s) _ _ _ s _ _
          (lay_on E N s _ x here at deep (room_left E l list o.count c.in_ok-free_place.ensures))
          (λ i. record { cursor = moved i; records = counted i }) refl,
    )

pub returns-clause-node : goal.returns-clause-node
returns-clause-node g c at =
    let o = c.args.self.now in let N = g.P.Placer.plan o.placer in let a = address_view c.in_ok-cursor.cursor.node in
    let moved = c.record.ensures.moved ∙ ap (λ M. come_to (advance M a)) c.in_ok-placed.ensures.kept in
    subst (AtNode N) (sym moved) (stays N a (subst (AtNode N) (ap cursor_at c.in_ok-cursor.ensures) at))
