use Rattle.std.proofs.Common.{sym, ap, ◌∙◌, subst, arith, w8, SFits, rules}
use Rattle.exact.proofs.Sizes.{within_wider}
use Rattle.rings.specs.Plane.{OnPlane, plane_bound, height_bound}
use Rattle.book.proofs.Tests.{broke_off, first_power, one_decided}
use Rattle.book.proofs.labels.is_positive.Goals as goal

pub returns-in_err-raised : goal.returns-in_err-raised
returns-in_err-raised g c =
    let E = g.R.Ring.exact in
    broke_off c.from_residual.result _ _ _ _ c.from_residual.ensures.1 (subst (OnPlane E) (sym (first_power E g.met.R.Ring.lawful (g.R.Ring.value c.args.z)))) c.in_err-raised.ensures.is

pub returns-in_err-height : goal.returns-in_err-height
returns-in_err-height g c =
    broke_off c.from_residual-in_err-height.result _ _ _ _ c.from_residual-in_err-height.ensures.1 (λ _. within_wider plane_bound height_bound _ (omega arith) (g.met.R.Ring.bounded c.in_ok-raised.raised)) c.in_err-height.ensures.is

pub returns : goal.returns
returns g c =
    let E = g.R.Ring.exact in
    let r = c.in_ok-raised.ensures.is in
    let e = first_power E g.met.R.Ring.lawful (g.R.Ring.value c.args.z) in
    let f : SFits w8 c.in_ok-height.height = search rules in
    record { is = (one_decided _ _ f (c.in_ok-height.ensures.is.0 ∙ ap E.height (r.0 ∙ e)), subst (OnPlane E) e r.1) }
