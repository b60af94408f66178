use Rattle.std.proofs.Common.{◌≡◌, pos, sym, ap, ◌∙◌, subst, true≢false}
use Rattle.rings.specs.Plane.{OnPlane}
use Rattle.edges.specs.Views.{book_view}
use Rattle.book.proofs.Tests.{test_broke_off, ended}
use Rattle.book.proofs.labels.factor_fits.Goals as goal

pub returns-in_err-is_real : goal.returns-in_err-is_real
unfolding book_view
returns-in_err-is_real g c = test_broke_off c.from_residual.result _ _ _ _ c.from_residual.ensures.1 (λ k. k.conjugate) c.in_err-is_real.ensures.is

pub returns-then-not-branch : goal.returns-then-not-branch
unfolding book_view
returns-then-not-branch g c = record { is = λ h. true≢false (sym (c.in_ok-is_real.ensures.is.0.1 h.real) ∙ c.if-not-branch.true) }

pub returns-in_err-less : goal.returns-in_err-less
unfolding book_view
returns-in_err-less g c =
    let E = g.R.Ring.exact in let F = g.R.Ring.value c.args.book.now.factor in
    test_broke_off c.from_residual-in_err-less.result _ _ _ _ c.from_residual-in_err-less.ensures.1
    (λ k. subst (λ z. OnPlane E (E.add F (E.neg z))) (sym c.unit.ensures) k.less_one) c.in_err-less.ensures.is

pub returns : goal.returns
unfolding book_view
returns g c =
    let E = g.R.Ring.exact in let F = g.R.Ring.value c.args.book.now.factor in
    let real = c.in_ok-is_real.ensures.is in
    let less = c.in_ok-less.ensures.is in
    let e = ap (λ z. E.add F (E.neg z)) c.unit.ensures in
    let l = less.0 ∙ e in
    ended c.is_positive.result _ _ _ _
    (λ d. record { real = real.0.0 c.if-not-branch.false; above_one = subst (λ z. E.height (E.mul E.zeta z) ≡ pos 1) l d })
    (λ h. subst (λ z. E.height (E.mul E.zeta z) ≡ pos 1) (sym l) h.above_one)
    (λ k. record { conjugate = real.1; less_one = subst (OnPlane E) e less.1; raised = subst (λ z. OnPlane E (E.mul E.zeta z)) l k })
    (λ k. subst (λ z. OnPlane E (E.mul E.zeta z)) (sym l) k.raised)
    c.is_positive.ensures
