use Rattle.std.proofs.Common.{◌≡◌, pos, sym, ◌∙◌, subst, true≢false}
use Rattle.rings.specs.Plane.{OnPlane}
use Rattle.book.proofs.Tests.{test_broke_off, ended}
use Rattle.book.proofs.labels.length_fits.Goals as goal

pub returns-in_err-is_real : goal.returns-in_err-is_real
returns-in_err-is_real g c =
    let E = g.R.Ring.exact in let l = c.length_of-length.ensures in
    test_broke_off c.from_residual.result _ _ _ _ c.from_residual.ensures.1 (λ k. subst (λ z. OnPlane E (E.conj z)) (sym l) k.conjugate) c.in_err-is_real.ensures.is

pub returns-then-not-branch : goal.returns-then-not-branch
returns-then-not-branch g c =
    let E = g.R.Ring.exact in let l = c.length_of-length.ensures in
    record { is = λ h. true≢false (sym (c.in_ok-is_real.ensures.is.0.1 (subst (λ z. E.conj z ≡ z) (sym l) h.real)) ∙ c.if-not-branch.true) }

pub returns : goal.returns
returns g c =
    let E = g.R.Ring.exact in let l = c.length_of-length.ensures in
    let real = c.in_ok-is_real.ensures.is in
    ended c.is_positive.result _ _ _ _
    (λ d. record { real = subst (λ z. E.conj z ≡ z) l (real.0.0 c.if-not-branch.false); above_zero = subst (λ z. E.height (E.mul E.zeta z) ≡ pos 1) l d })
    (λ h. subst (λ z. E.height (E.mul E.zeta z) ≡ pos 1) (sym l) h.above_zero)
    (λ k. record { conjugate = subst (λ z. OnPlane E (E.conj z)) l real.1; raised = subst (λ z. OnPlane E (E.mul E.zeta z)) l k })
    (λ k. subst (λ z. OnPlane E (E.mul E.zeta z)) (sym l) k.raised)
    c.is_positive.ensures
