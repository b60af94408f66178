-- Rows of four with ζ⁴ = r form a commutative ring, whatever r is.
use Rattle.std.proofs.Common.{List, [], ℤ, pos, ◌+ℤ◌, ◌*ℤ◌, neg_ℤ}
use Rattle.exact.specs.Cyclotomic.{CommutativeLaws}
use Rattle.exact.specs.Quads.{Quad, quad_add, quad_neg, quad_mul}
use Rattle.exact.proofs.Solver.{Ex, nil, unit, plus, times, minus}
use Rattle.exact.proofs.Coefficients.{four_at, quad_solved, X4, Y4, Z4, R4}

abbrev ◌⊕◌ : Quad Ex → Quad Ex → Quad Ex
◌⊕◌ = quad_add plus times minus

abbrev ◌⊗◌ : Quad Ex → Quad Ex → Quad Ex
◌⊗◌ = quad_mul plus times minus R4

abbrev ⊖◌ : Quad Ex → Quad Ex
⊖◌ = quad_neg plus times minus

abbrev 0# : Quad Ex
0# = record { c0 = nil; c1 = nil; c2 = nil; c3 = nil }

abbrev 1# : Quad Ex
1# = record { c0 = unit; c1 = nil; c2 = nil; c3 = nil }

infixl 6 ◌⊕◌
infixl 7 ◌⊗◌
module _ (r : Quad ℤ) where
  abbrev at : Quad ℤ → Quad ℤ → Quad ℤ → List ℤ
  at x y z = four_at x (four_at y (four_at z (four_at r [])))

  pub quartic_ring : CommutativeLaws {A = Quad ℤ}
      (record { c0 = pos 0; c1 = pos 0; c2 = pos 0; c3 = pos 0 }) (record { c0 = pos 1; c1 = pos 0; c2 = pos 0; c3 = pos 0 })
      (quad_add ◌+ℤ◌ ◌*ℤ◌ neg_ℤ) (quad_mul ◌+ℤ◌ ◌*ℤ◌ neg_ℤ r) (quad_neg ◌+ℤ◌ ◌*ℤ◌ neg_ℤ)
  quartic_ring = record {
    add_assoc = λ x y z. quad_solved (at x y z) (X4 ⊕ Y4 ⊕ Z4) (X4 ⊕ (Y4 ⊕ Z4)) (tt, tt, tt, tt);
    add_comm = λ x y. quad_solved (at x y y) (X4 ⊕ Y4) (Y4 ⊕ X4) (tt, tt, tt, tt);
    add-zero = λ x. quad_solved (at x x x) (X4 ⊕ 0#) X4 (tt, tt, tt, tt);
    add_neg = λ x. quad_solved (at x x x) (X4 ⊕ ⊖◌ X4) 0# (tt, tt, tt, tt);
    mul_assoc = λ x y z. quad_solved (at x y z) (X4 ⊗ Y4 ⊗ Z4) (X4 ⊗ (Y4 ⊗ Z4)) (tt, tt, tt, tt);
    mul_comm = λ x y. quad_solved (at x y y) (X4 ⊗ Y4) (Y4 ⊗ X4) (tt, tt, tt, tt);
    mul_one = λ x. quad_solved (at x x x) (X4 ⊗ 1#) X4 (tt, tt, tt, tt);
    mul_add = λ x y z. quad_solved (at x y z) (X4 ⊗ (Y4 ⊕ Z4)) (X4 ⊗ Y4 ⊕ X4 ⊗ Z4) (tt, tt, tt, tt);
  }
