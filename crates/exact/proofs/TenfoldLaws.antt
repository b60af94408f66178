-- Z[ζ10] keeps the laws.
use Rattle.std.proofs.Common.{◌≡◌, ℕ, suc, List, [], ◌∷◌, length, ℤ, pos, negsuc, ◌+ℤ◌, ◌-ℤ◌, ◌*ℤ◌, neg_ℤ, refl, ap, ◌∙◌, ap₂, arith, lit≤}
use borrow.Author.Differences.{ints}
use Rattle.exact.specs.Cyclotomic.{CyclotomicLaws, copies, whole_times, combination}
use Rattle.exact.specs.Signs.{golden_sign, surd_sign}
use Rattle.exact.specs.Quads.{Quad, quad_add, quad_neg, quad_mul, tenfold_conj}
use Rattle.exact.specs.Models.{quad_list, quad_of, tenfold, tenfold_reduction}
use Rattle.exact.specs.Sweeps.{sweep}
use Rattle.exact.proofs.Solver.{Ex, v, nil, unit, plus, times, minus}
use Rattle.exact.proofs.Coefficients.{four_at, quad_solved, X4, Y4}
use Rattle.exact.proofs.Quartics.{quartic_ring}
use Rattle.exact.proofs.Surds.{surd_neg, surd_add}

abbrev ◌⊕◌ : Quad Ex → Quad Ex → Quad Ex
◌⊕◌ = quad_add plus times minus

-- the reduction of the ring of ten, as an expression
abbrev ζ⁴ : Quad Ex
ζ⁴ = record { c0 = minus unit; c1 = unit; c2 = minus unit; c3 = unit }

abbrev ◌⊗◌ : Quad Ex → Quad Ex → Quad Ex
◌⊗◌ = quad_mul plus times minus ζ⁴

abbrev ⊖◌ : Quad Ex → Quad Ex
⊖◌ = quad_neg plus times minus

abbrev conj : Quad Ex → Quad Ex
conj = tenfold_conj plus times minus

abbrev 0# : Quad Ex
0# = record { c0 = nil; c1 = nil; c2 = nil; c3 = nil }

abbrev ζ# : Quad Ex
ζ# = record { c0 = nil; c1 = unit; c2 = nil; c3 = nil }

infixl 6 ◌⊕◌
infixl 7 ◌⊗◌
abbrev at : Quad ℤ → Quad ℤ → Quad ℤ → List ℤ
at x y z = four_at x (four_at y (four_at z []))

list_of : (l : List ℤ) → length l ≡ 4 → quad_list (quad_of l) ≡ l
list_of [] e = absurd (omega arith)
list_of (a ∷ []) e = absurd (omega arith)
list_of (a ∷ (b ∷ [])) e = absurd (omega arith)
list_of (a ∷ (b ∷ (c ∷ []))) e = absurd (omega arith)
list_of (a ∷ (b ∷ (c ∷ (d ∷ [])))) e = refl
list_of (a ∷ (b ∷ (c ∷ (d ∷ (f ∷ l))))) e = absurd (omega arith)

-- c times 1 has c in front and 0 behind
abbrev real : ℤ → Quad ℤ
real c = record { c0 = c; c1 = pos 0; c2 = pos 0; c3 = pos 0 }

copies_real : (k : ℕ) → copies tenfold k (real (pos 1)) ≡ real (pos k)
copies_real ℕ.zero = refl
copies_real (ℕ.suc k) = let e : pos 1 +ℤ pos k ≡ pos (suc k) = omega (arith, ints) in ap (tenfold.add (real (pos 1))) (copies_real k) ∙ ap real e

whole_real : (c : ℤ) → whole_times tenfold c (real (pos 1)) ≡ real c
whole_real (pos k) = copies_real k
whole_real (negsuc k) = ap tenfold.neg (copies_real (suc k))

abbrev front : Ex → Quad Ex
front c = record { c0 = c; c1 = nil; c2 = nil; c3 = nil }

stands_for : (x : Quad ℤ) → combination tenfold (quad_list x) ≡ x
stands_for x =
    ap₂ (λ a z. tenfold.add a (tenfold.mul tenfold.zeta z)) (whole_real x.c0)
    (ap₂ (λ a z. tenfold.add a (tenfold.mul tenfold.zeta z)) (whole_real x.c1)
    (ap₂ (λ a z. tenfold.add a (tenfold.mul tenfold.zeta z)) (whole_real x.c2)
    (ap (λ a. tenfold.add a (tenfold.mul tenfold.zeta tenfold.zero)) (whole_real x.c3))))
    ∙ quad_solved (at x x x) (front (v 0) ⊕ ζ# ⊗ (front (v 1) ⊕ ζ# ⊗ (front (v 2) ⊕ ζ# ⊗ (front (v 3) ⊕ ζ# ⊗ 0#)))) X4 (tt, tt, tt, tt)

-- ---- the height, by u = 2a + b
golden_neg : (a b : ℤ) → golden_sign (neg_ℤ a) (neg_ℤ b) ≡ neg_ℤ (golden_sign a b)
golden_neg a b = let e : neg_ℤ a +ℤ neg_ℤ a +ℤ neg_ℤ b ≡ neg_ℤ (a +ℤ a +ℤ b) = omega (arith, ints) in ap (λ u. surd_sign 5 u (neg_ℤ b)) e ∙ surd_neg 5 _ b

golden_add : (a b c d : ℤ) → golden_sign a b ≡ pos 1 → golden_sign c d ≡ pos 1 → golden_sign (a +ℤ c) (b +ℤ d) ≡ pos 1
golden_add a b c d p q =
    let e : (a +ℤ c) +ℤ (a +ℤ c) +ℤ (b +ℤ d) ≡ (a +ℤ a +ℤ b) +ℤ (c +ℤ c +ℤ d) = omega (arith, ints) in
    ap (λ u. surd_sign 5 u (b +ℤ d)) e ∙ surd_add 5 _ b _ d p q

four : (a b c d : ℤ) → (a +ℤ b) +ℤ (c +ℤ d) ≡ (a +ℤ c) +ℤ (b +ℤ d)
four a b c d = omega (arith, ints)

neg_sum : (a b : ℤ) → neg_ℤ a +ℤ neg_ℤ b ≡ neg_ℤ (a +ℤ b)
neg_sum a b = omega (arith, ints)

height_real : (z : Quad ℤ) → tenfold.conj z ≡ z → tenfold.height z ≡ pos 0
height_real z e =
    ap₂ golden_sign (first z.c1 (ap (λ w. w.c1) e)) (second z.c1 z.c2 z.c3 (ap (λ w. w.c1) e) (ap (λ w. w.c2) e))
  where
    first : (a : ℤ) → neg_ℤ a ≡ a → a ≡ pos 0
    first a e = omega (arith, ints)

    second : (a b c : ℤ) → neg_ℤ a ≡ a → a -ℤ c ≡ b → b +ℤ c ≡ pos 0
    second a b c e f = omega (arith, ints)

pub tenfold_laws : CyclotomicLaws tenfold
tenfold_laws = record {
  list_length = λ x. refl;
  list_of = list_of;
  of_list = λ x. refl;
  stands_for = stands_for;
  ring = quartic_ring tenfold_reduction;
  conj_conj = λ x. quad_solved (at x x x) (conj (conj X4)) X4 (tt, tt, tt, tt);
  conj_add = λ x y. quad_solved (at x y y) (conj (X4 ⊕ Y4)) (conj X4 ⊕ conj Y4) (tt, tt, tt, tt);
  conj_mul = λ x y. quad_solved (at x y y) (conj (X4 ⊗ Y4)) (conj X4 ⊗ conj Y4) (tt, tt, tt, tt);
  few = lit≤ tt;
  many = lit≤ tt;
  even = refl;
  half_turn = refl;
  unit_length = refl;
  height_zeta = refl;
  height_neg = λ z. ap (golden_sign (neg_ℤ z.c1)) (neg_sum z.c2 z.c3) ∙ golden_neg z.c1 (z.c2 +ℤ z.c3);
  height_real = height_real;
  height_add = λ x y p q. ap (golden_sign (x.c1 +ℤ y.c1)) (four x.c2 y.c2 x.c3 y.c3) ∙ golden_add x.c1 (x.c2 +ℤ x.c3) y.c1 (y.c2 +ℤ y.c3) p q;
}

-- ---- the product and the sweep, as the code works them out
-- the coefficients of ζ⁴, ζ⁵ and ζ⁶ in a product; ζ⁵ = -1 and ζ⁶ = -ζ
module _ {A : Type 0} (◌⊕◌ ◌⊗◌ : A → A → A) (⊖◌ : A → A) where
  abbrev pub at4 : Quad A → Quad A → A
  at4 x y = ◌⊕◌ (◌⊕◌ (◌⊗◌ x.c1 y.c3) (◌⊗◌ x.c2 y.c2)) (◌⊗◌ x.c3 y.c1)

  abbrev pub row0 : Quad A → Quad A → A
  row0 x y = ◌⊕◌ (◌⊗◌ x.c0 y.c0) (⊖◌ (◌⊕◌ (◌⊗◌ x.c2 y.c3) (◌⊗◌ x.c3 y.c2)))

  abbrev pub row1 : Quad A → Quad A → A
  row1 x y = ◌⊕◌ (◌⊕◌ (◌⊗◌ x.c0 y.c1) (◌⊗◌ x.c1 y.c0)) (⊖◌ (◌⊗◌ x.c3 y.c3))

  abbrev pub row2 : Quad A → Quad A → A
  row2 x y = ◌⊕◌ (◌⊕◌ (◌⊗◌ x.c0 y.c2) (◌⊗◌ x.c1 y.c1)) (◌⊗◌ x.c2 y.c0)

  abbrev pub row3 : Quad A → Quad A → A
  row3 x y = ◌⊕◌ (◌⊕◌ (◌⊗◌ x.c0 y.c3) (◌⊗◌ x.c3 y.c0)) (◌⊕◌ (◌⊗◌ x.c1 y.c2) (◌⊗◌ x.c2 y.c1))

  abbrev pub by_rows : Quad A → Quad A → Quad A
  by_rows x y = record {
    c0 = ◌⊕◌ (row0 x y) (⊖◌ (at4 x y));
    c1 = ◌⊕◌ (row1 x y) (at4 x y);
    c2 = ◌⊕◌ (row2 x y) (⊖◌ (at4 x y));
    c3 = ◌⊕◌ (row3 x y) (at4 x y);
  }

  -- the cross products of neighbouring coefficients, and of those farther apart
  abbrev pub near_cross : Quad A → Quad A → A
  near_cross x y =
      ◌⊕◌ (◌⊕◌ (◌⊕◌ (◌⊗◌ x.c0 y.c1) (⊖◌ (◌⊗◌ x.c1 y.c0))) (◌⊕◌ (◌⊗◌ x.c1 y.c2) (⊖◌ (◌⊗◌ x.c2 y.c1)))) (◌⊕◌ (◌⊗◌ x.c2 y.c3) (⊖◌ (◌⊗◌ x.c3 y.c2)))

  abbrev pub far_cross : Quad A → Quad A → A
  far_cross x y =
      ◌⊕◌ (◌⊕◌ (◌⊕◌ (◌⊗◌ x.c0 y.c2) (⊖◌ (◌⊗◌ x.c2 y.c0))) (◌⊕◌ (◌⊗◌ x.c1 y.c3) (⊖◌ (◌⊗◌ x.c3 y.c1)))) (◌⊕◌ (◌⊗◌ x.c0 y.c3) (⊖◌ (◌⊗◌ x.c3 y.c0)))

  -- ζ - ζ⁻¹ is (-1, 2, -1, 1), and ζ² - ζ⁻² and ζ³ - ζ⁻³ are both (0, 0, 1, 1)
  abbrev pub by_crosses : A → A → Quad A
  by_crosses a b = record { c0 = ⊖◌ a; c1 = ◌⊕◌ a a; c2 = ◌⊕◌ b (⊖◌ a); c3 = ◌⊕◌ b a }

pub mul_by_rows : (x y : Quad ℤ) → by_rows ◌+ℤ◌ ◌*ℤ◌ neg_ℤ x y ≡ tenfold.mul x y
mul_by_rows x y = quad_solved (at x y y) (by_rows plus times minus X4 Y4) (X4 ⊗ Y4) (tt, tt, tt, tt)

pub sweep_by_crosses : (x y : Quad ℤ) → by_crosses ◌+ℤ◌ ◌*ℤ◌ neg_ℤ (near_cross ◌+ℤ◌ ◌*ℤ◌ neg_ℤ x y) (far_cross ◌+ℤ◌ ◌*ℤ◌ neg_ℤ x y) ≡ sweep tenfold x y
sweep_by_crosses x y = quad_solved (at x y y) (by_crosses plus times minus (near_cross plus times minus X4 Y4) (far_cross plus times minus X4 Y4)) (conj X4 ⊗ Y4 ⊕ ⊖◌ (X4 ⊗ conj Y4)) (tt, tt, tt, tt)
