-- Z[i] keeps the laws.
use Rattle.std.proofs.Common.{◌≡◌, ℕ, suc, List, [], ◌∷◌, length, ℤ, pos, negsuc, ◌+ℤ◌, ◌-ℤ◌, ◌*ℤ◌, neg_ℤ, refl, ap, ◌∙◌, ap₂, arith, lit≤}
use borrow.Author.Differences.{ints}
use Rattle.exact.specs.Cyclotomic.{CyclotomicLaws, copies, whole_times, combination}
use Rattle.exact.specs.Signs.{sign}
use Rattle.exact.specs.Quads.{Pair, pair_add, pair_neg, pair_mul, pair_conj}
use Rattle.exact.specs.Models.{pair_list, pair_of, gaussian}
use Rattle.exact.specs.Sweeps.{sweep}
use Rattle.exact.proofs.Solver.{Ex, v, nil, unit, plus, times, minus}
use Rattle.exact.proofs.Coefficients.{two_at, pair_solved, X2, Y2, Z2}
use Rattle.exact.proofs.Surds.{sign_neg, sign_add}

abbrev ◌⊕◌ : Pair Ex → Pair Ex → Pair Ex
◌⊕◌ = pair_add plus times minus

abbrev ◌⊗◌ : Pair Ex → Pair Ex → Pair Ex
◌⊗◌ = pair_mul plus times minus

abbrev ⊖◌ : Pair Ex → Pair Ex
⊖◌ = pair_neg plus times minus

abbrev conj : Pair Ex → Pair Ex
conj = pair_conj plus times minus

abbrev 0# : Pair Ex
0# = record { c0 = nil; c1 = nil }

abbrev 1# : Pair Ex
1# = record { c0 = unit; c1 = nil }

abbrev ζ# : Pair Ex
ζ# = record { c0 = nil; c1 = unit }

infixl 6 ◌⊕◌
infixl 7 ◌⊗◌
abbrev at : Pair ℤ → Pair ℤ → Pair ℤ → List ℤ
at x y z = two_at x (two_at y (two_at z []))

list_of : (l : List ℤ) → length l ≡ 2 → pair_list (pair_of l) ≡ l
list_of [] e = absurd (omega arith)
list_of (a ∷ []) e = absurd (omega arith)
list_of (a ∷ (b ∷ [])) e = refl
list_of (a ∷ (b ∷ (c ∷ l))) e = absurd (omega arith)

-- c times 1 has c in front and 0 behind
abbrev real : ℤ → Pair ℤ
real c = record { c0 = c; c1 = pos 0 }

copies_real : (k : ℕ) → copies gaussian k (real (pos 1)) ≡ real (pos k)
copies_real ℕ.zero = refl
copies_real (ℕ.suc k) = let e : pos 1 +ℤ pos k ≡ pos (suc k) = omega (arith, ints) in ap (gaussian.add (real (pos 1))) (copies_real k) ∙ ap real e

whole_real : (c : ℤ) → whole_times gaussian c (real (pos 1)) ≡ real c
whole_real (pos k) = copies_real k
whole_real (negsuc k) = ap gaussian.neg (copies_real (suc k))

stands_for : (x : Pair ℤ) → combination gaussian (pair_list x) ≡ x
stands_for x =
    ap₂ (λ a b. gaussian.add a (gaussian.mul gaussian.zeta (gaussian.add b (gaussian.mul gaussian.zeta gaussian.zero)))) (whole_real x.c0) (whole_real x.c1)
    ∙ pair_solved (at x x x) (record { c0 = v 0; c1 = nil } ⊕ ζ# ⊗ (record { c0 = v 1; c1 = nil } ⊕ ζ# ⊗ 0#)) X2 (tt, tt)

own_opposite : (z : ℤ) → neg_ℤ z ≡ z → z ≡ pos 0
own_opposite z e = omega (arith, ints)

pub gaussian_laws : CyclotomicLaws gaussian
gaussian_laws = record {
  list_length = λ x. refl;
  list_of = list_of;
  of_list = λ x. refl;
  stands_for = stands_for;
  ring = record {
    add_assoc = λ x y z. pair_solved (at x y z) (X2 ⊕ Y2 ⊕ Z2) (X2 ⊕ (Y2 ⊕ Z2)) (tt, tt);
    add_comm = λ x y. pair_solved (at x y y) (X2 ⊕ Y2) (Y2 ⊕ X2) (tt, tt);
    add-zero = λ x. pair_solved (at x x x) (X2 ⊕ 0#) X2 (tt, tt);
    add_neg = λ x. pair_solved (at x x x) (X2 ⊕ ⊖◌ X2) 0# (tt, tt);
    mul_assoc = λ x y z. pair_solved (at x y z) (X2 ⊗ Y2 ⊗ Z2) (X2 ⊗ (Y2 ⊗ Z2)) (tt, tt);
    mul_comm = λ x y. pair_solved (at x y y) (X2 ⊗ Y2) (Y2 ⊗ X2) (tt, tt);
    mul_one = λ x. pair_solved (at x x x) (X2 ⊗ 1#) X2 (tt, tt);
    mul_add = λ x y z. pair_solved (at x y z) (X2 ⊗ (Y2 ⊕ Z2)) (X2 ⊗ Y2 ⊕ X2 ⊗ Z2) (tt, tt);
  };
  conj_conj = λ x. pair_solved (at x x x) (conj (conj X2)) X2 (tt, tt);
  conj_add = λ x y. pair_solved (at x y y) (conj (X2 ⊕ Y2)) (conj X2 ⊕ conj Y2) (tt, tt);
  conj_mul = λ x y. pair_solved (at x y y) (conj (X2 ⊗ Y2)) (conj X2 ⊗ conj Y2) (tt, tt);
  few = lit≤ tt;
  many = lit≤ tt;
  even = refl;
  half_turn = refl;
  unit_length = refl;
  height_zeta = refl;
  height_neg = λ z. sign_neg z.c1;
  height_real = λ z e. ap sign (own_opposite z.c1 (ap (λ w. w.c1) e));
  height_add = λ x y. sign_add x.c1 y.c1;
}

abbrev cross : Ex
cross = plus (times (v 0) (v 3)) (minus (times (v 1) (v 2)))

-- the sweep has no real part, and twice the cross product for imaginary part
pub sweep_by_cross : (x y : Pair ℤ) → record { c0 = pos 0; c1 = (x.c0 *ℤ y.c1 -ℤ x.c1 *ℤ y.c0) +ℤ (x.c0 *ℤ y.c1 -ℤ x.c1 *ℤ y.c0) } ≡ sweep gaussian x y
sweep_by_cross x y = pair_solved (at x y y) (record { c0 = nil; c1 = plus cross cross }) (conj X2 ⊗ Y2 ⊕ ⊖◌ (X2 ⊗ conj Y2)) (tt, tt)
