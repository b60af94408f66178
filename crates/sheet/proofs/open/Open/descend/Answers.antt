use Rattle.std.proofs.Common.{◌≡◌, ◌<◌, ◌≤◌, length, take, sym, refl, ap, ◌∙◌, subst, arith}
use Rattle.std.proofs.lemmas.List.{length-take-le}
use Rattle.ring_jobs.proofs.Booked.{depth_is}
use Rattle.calls.specs.Sheets.{Sheet, AtNode, descend}
use Rattle.nodes.specs.Views.{address_view}
use Rattle.calls.specs.Views.{cursor_at, cursor_view}
use Rattle.sheet.proofs.Refusing.{refuses, passes_on, does, descend_nowhere, descend_deep, descend_on}
use Rattle.calls.proofs.Families.{shallow, first_child_there}
use Rattle.calls.proofs.Downward.{gone_down}
use Rattle.sheet.proofs.open.Open.descend.Goals as goal

pub returns-in_err-cursor-clause-does : goal.returns-in_err-cursor-clause-does
returns-in_err-cursor-clause-does g c rs =
    let E = g.P.R.Ring.exact in let N = g.P.Placer.plan c.args.self.now.placer in
    let s : Sheet E = record { cursor = cursor_at c.args.self.now.cursor; records = rs } in
    let h = c.in_err-cursor.ensures in
    passes_on E (descend E N s) _ _ s c.from_residual.result c.in_err-cursor.field-0.0 (descend_nowhere E N s (ap cursor_at h.1)) c.from_residual.ensures.1 h.0

pub returns-then-from-job-clause-does : goal.returns-then-from-job-clause-does
returns-then-from-job-clause-does g c rs =
    let E = g.P.R.Ring.exact in let N = g.P.Placer.plan c.args.self.now.placer in
    let s : Sheet E = record { cursor = cursor_at c.args.self.now.cursor; records = rs } in
    let node = c.in_ok-cursor.cursor.node in
    let depth : N.depth ≡ c.job.result.now.depth = ap (λ M. M.depth) (sym c.job.ensures) ∙ depth_is E g.met.P.R.Ring.lawful g.P.R.Ring.value c.job.result.now in
    let deep : N.depth ≤ length (take node.level node.path) = omega (arith, depth, length-take-le node.level node.path (omega arith), c.from.ensures, c.if-from-job.true) in
    refuses E (descend E N s) _ _ s s _ (descend_deep E N s (cursor_view c.in_ok-cursor.cursor) (ap cursor_at c.in_ok-cursor.ensures) deep) refl refl

pub returns-clause-does : goal.returns-clause-does
returns-clause-does g c rs =
    let E = g.P.R.Ring.exact in let N = g.P.Placer.plan c.args.self.now.placer in
    let s : Sheet E = record { cursor = cursor_at c.args.self.now.cursor; records = rs } in
    let node = c.in_ok-cursor.cursor.node in
    let depth : N.depth ≡ c.job.result.now.depth = ap (λ M. M.depth) (sym c.job.ensures) ∙ depth_is E g.met.P.R.Ring.lawful g.P.R.Ring.value c.job.result.now in
    let level : length (take node.level node.path) ≡ node.level = length-take-le node.level node.path (omega arith) in
    let high : length (take node.level node.path) < N.depth = omega (arith, depth, level, c.from.ensures, c.if-from-job.false) in
    let low = shallow E g.P.R.Ring.value c.job.result.now in
    let fine : node.level < 12 = omega (arith, depth, level, high, low) in
    does E (descend E N s) _ _ _ s _ _ (descend_on E N s (cursor_view c.in_ok-cursor.cursor) (ap cursor_at c.in_ok-cursor.ensures) high)
    (λ i. record { cursor = gone_down c.in_ok-cursor.cursor c.descended-self.result fine c.descended-self.ensures i; records = rs }) tt

pub returns-clause-sound : goal.returns-clause-sound
returns-clause-sound g c at =
    let E = g.P.R.Ring.exact in let v = g.P.R.Ring.value in let N = g.P.Placer.plan c.args.self.now.placer in
    let node = c.in_ok-cursor.cursor.node in
    let job = c.job.result.now in
    let depth : N.depth ≡ job.depth = ap (λ M. M.depth) (sym c.job.ensures) ∙ depth_is E g.met.P.R.Ring.lawful v job in
    let level : length (take node.level node.path) ≡ node.level = length-take-le node.level node.path (omega arith) in
    let high : length (take node.level node.path) < N.depth = omega (arith, depth, level, c.from.ensures, c.if-from-job.false) in
    let low = shallow E v job in
    let fine : node.level < 12 = omega (arith, depth, level, high, low) in
    let here = subst (AtNode N) (ap cursor_at c.in_ok-cursor.ensures) at in
    subst (AtNode N) (sym (gone_down c.in_ok-cursor.cursor c.descended-self.result fine c.descended-self.ensures)) (first_child_there E v job N c.job.ensures (address_view node) here high)
