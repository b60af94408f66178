use Rattle.std.proofs.Common.{◌+ℤ◌, ◌∙◌, ap₂, arith}
use Rattle.rings.proofs.Bounds.{linear, add3}
use Rattle.tenfold.proofs.far_cross.Goals as goal

pub overflow_add-result-2 : goal.overflow_add-result-2
overflow_add-result-2 c =
    let s0 = c.cross.ensures.small in
    let s1 = c.cross-2.ensures.small in
    let s2 = c.cross-3.ensures.small in
    omega (arith, linear)

pub returns : goal.returns
returns c =
    let s = add3 _ _ _ c.cross.ensures.small c.cross-2.ensures.small c.cross-3.ensures.small in
    record { is = s.0 ∙ ap₂ ◌+ℤ◌ (ap₂ ◌+ℤ◌ c.cross.ensures.is c.cross-2.ensures.is) c.cross-3.ensures.is; small = s.1 }
