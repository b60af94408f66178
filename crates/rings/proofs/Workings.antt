-- What the bodies of the trait `Ring` answer, by the lists of the rows that they work on.
use Rattle.std.proofs.Common.{◌≡◌, ℕ, zero, suc, ◌+◌, ◌<◌, ◌≤◌, List, length, get_or, ℤ, pos, ◌+ℤ◌, ◌-ℤ◌, sym, refl, ap, ◌∙◌, subst, arith, w64, inl, inr}
use lib.ListN.{get_or-eq_default}
use Rattle.std.proofs.lemmas.Int.{ints, int_wrap_fits}
use Rattle.std.proofs.lemmas.Bool.{cases_lt}
use Rattle.exact.specs.Cyclotomic.{Cyclotomic, CyclotomicLaws}
use Rattle.exact.specs.Residues.{Total, residue}
use Rattle.exact.specs.Sizes.{Within}
use Rattle.exact.specs.Sweeps.{coefficients_from}
use Rattle.rings.specs.Plane.{OnPlane, plane_bound}
use Rattle.rings.proofs.Added.{sum_of, difference_of}

-- a and b are the lists of x and y, and l what adding or subtracting them gave
module _ (E : Cyclotomic) (L : CyclotomicLaws E) (x y : E.Elem) (near : OnPlane E x) (close : OnPlane E y) (a b l : List ℤ) (p : a ≡ E.list x) (q : b ≡ E.list y) (n : length l ≡ E.d) where
  pub sum_listed : (Within plane_bound a → Within plane_bound b → (k : ℕ) → get_or l k (pos 0) ≡ get_or a k (pos 0) +ℤ get_or b k (pos 0)) → E.of l ≡ E.add x y
  sum_listed h =
      let at = h (subst (Within plane_bound) (sym p) near) (subst (Within plane_bound) (sym q) close) in
      sum_of E L x y l n (λ k. at k ∙ (λ i. get_or (p i) k (pos 0) +ℤ get_or (q i) k (pos 0)))

  pub difference_listed : (Within plane_bound a → Within plane_bound b → (k : ℕ) → get_or l k (pos 0) ≡ get_or a k (pos 0) -ℤ get_or b k (pos 0)) → E.of l ≡ E.add x (E.neg y)
  difference_listed h =
      let at = h (subst (Within plane_bound) (sym p) near) (subst (Within plane_bound) (sym q) close) in
      difference_of E L x y l n (λ k. at k ∙ (λ i. get_or (p i) k (pos 0) -ℤ get_or (q i) k (pos 0)))

-- ---- the coefficients of a total, one by one
length_from : (t : Total) (i d : ℕ) → length (coefficients_from i d t) ≡ d
length_from t i zero = refl
length_from t i (suc d) = ap suc (length_from t (suc i) d)

coefficient_from : (t : Total) (i d k : ℕ) → k < d → get_or (coefficients_from i d t) k (pos 0) ≡ (t (i + k)).at
coefficient_from t i zero k lt = elim lt [ ]
coefficient_from t i (suc d) zero lt = let e : i ≡ i + 0 = omega arith in λ j. (t (e j)).at
coefficient_from t i (suc d) (suc k) lt = let e : suc i + k ≡ i + suc k = omega arith in coefficient_from t (suc i) d k (omega arith) ∙ (λ j. (t (e j)).at)

-- those from d on are 0
pub coefficient_at : (d : ℕ) (t : Total) → ((k : ℕ) → d ≤ k → t k ≡ residue (pos 0)) → (k : ℕ) → get_or (coefficients_from 0 d t) k (pos 0) ≡ (t k).at
coefficient_at d t ends k = elim (cases_lt k d) [
  | inl lt ↦ let e : 0 + k ≡ k = omega arith in coefficient_from t 0 d k lt ∙ (λ j. (t (e j)).at)
  | inr ge ↦ get_or-eq_default (coefficients_from 0 d t) (pos 0) (omega (arith, length_from t 0 d)) ∙ sym ((λ j. (ends k (omega arith) j).at) ∙ int_wrap_fits w64 (pos 0) (omega (arith, ints)))
]
