-- Lists of coefficients: their bounds, their sums, and arrays that a closure fills.
use Rattle.std.proofs.Common.{◌≡◌, ℕ, zero, suc, ◌+◌, ◌<◌, ◌≤◌, T, Bool, true, false, List, [], ◌∷◌, length, ℤ, pos, ◌+ℤ◌, ◌-ℤ◌, get_or, sym, refl, subst, ap₂, ◌∙◌, arith, w64, SFits, inl, inr}
use denote.Param.Members.{Mut, Called}
use lib.ListN.{get_or-eq_default}
use Rattle.std.proofs.Math.Dec.{T_prop}
use Rattle.std.specs.Coded.{×_prop, Unit-prop}
use Rattle.std.specs.Int.{int_wrap}
use Rattle.std.specs.Bool.{MatchBool}
use Rattle.std.specs.List.{AllWithin, HoldsAt, All}
use Rattle.std.specs.Array.{IsFromFnResult, IsFromFnResultFrom}
use Rattle.std.proofs.lemmas.Int.{ints, int_wrap_fits}
use Rattle.std.proofs.lemmas.Bool.{cases_lt}
use Rattle.std.proofs.lemmas.List.{ext_get_or}
use Rattle.exact.specs.Sizes.{Between, Within}
use Rattle.rings.specs.Plane.{plane_bound, fitted_from}

-- ---- bounds
within_all : (s : ℕ) (l : List ℤ) → All (Between s) l → Within s l
within_all s [] h = tt
within_all s (x ∷ l) h = (h 0 (pos 0) (omega arith), within_all s l (λ k d lt. h (suc k) d (omega arith)))

pub within_at : (s : ℕ) (l : List ℤ) → Within s l → (k : ℕ) → Between s (get_or l k (pos 0))
within_at s [] h k = (omega (arith, ints), omega (arith, ints))
within_at s (x ∷ l) h zero = h.0
within_at s (x ∷ l) h (suc k) = within_at s l h.1 k

within_prop_at : (s : ℕ) (a : ℤ) → IsProp (Between s a)
within_prop_at s a = ×_prop (λ p q i. record { le = T_prop _ p.le q.le i }) (λ p q i. record { le = T_prop _ p.le q.le i })

pub within_prop : (s : ℕ) (l : List ℤ) → IsProp (Within s l)
within_prop s [] = Unit-prop
within_prop s (x ∷ l) = ×_prop (within_prop_at s x) (within_prop s l)

-- what a test of each coefficient says of the row
pub tested_row : (s : ℕ) (l : List ℤ) (r : Bool) → MatchBool r (AllWithin (Between s) l 0 (length l)) ((k : ℕ) × (k < length l) × HoldsAt (λ x. Between s x → ⊥) l k) → (T r → Within s l) × (Within s l → T r)
tested_row s l true h = (λ _. within_all s l (λ k d lt. h k d (omega arith) lt), λ _. tt)
tested_row s l false h = (λ e. absurd e, λ w. absurd (h.2 (pos 0) (within_at s l w h.0)))

-- ---- sums and differences of rows
nothing : (f : ℤ → ℤ → ℤ) → f (pos 0) (pos 0) ≡ pos 0 → (l m n : List ℤ) (k : ℕ) → length l ≤ k → length m ≤ k → length n ≤ k → get_or n k (pos 0) ≡ int_wrap w64 (f (get_or l k (pos 0)) (get_or m k (pos 0)))
nothing f e l m n k p q r =
    get_or-eq_default n (pos 0) r
    ∙ sym (ap₂ (λ a b. int_wrap w64 (f a b)) (get_or-eq_default l (pos 0) p) (get_or-eq_default m (pos 0) q) ∙ (λ i. int_wrap w64 (e i)) ∙ int_wrap_fits w64 (pos 0) (omega (arith, ints)))

sum_fits : (a b : ℤ) → Between plane_bound a → Between plane_bound b → SFits w64 (a +ℤ b)
sum_fits a b p q = omega (arith, ints)

difference_fits : (a b : ℤ) → Between plane_bound a → Between plane_bound b → SFits w64 (a -ℤ b)
difference_fits a b p q = omega (arith, ints)

module _ (l m n : List ℤ) (D : ℕ) (el : length l ≡ D) (em : length m ≡ D) (en : length n ≡ D) where
  pub by_index : (f : ℤ → ℤ → ℤ) → f (pos 0) (pos 0) ≡ pos 0 → ((k : ℕ) → k < D → get_or n k (pos 0) ≡ int_wrap w64 (f (get_or l k (pos 0)) (get_or m k (pos 0)))) → (k : ℕ) → get_or n k (pos 0) ≡ int_wrap w64 (f (get_or l k (pos 0)) (get_or m k (pos 0)))
  by_index f e h k = elim (cases_lt k D) [
    | inl lt ↦ h k lt
    | inr ge ↦ nothing f e l m n k (omega arith) (omega arith) (omega arith)
  ]

module _ (l m n : List ℤ) (p : Within plane_bound l) (q : Within plane_bound m) where
  pub exact_sums : ((k : ℕ) → get_or n k (pos 0) ≡ int_wrap w64 (get_or l k (pos 0) +ℤ get_or m k (pos 0))) → (k : ℕ) → get_or n k (pos 0) ≡ get_or l k (pos 0) +ℤ get_or m k (pos 0)
  exact_sums h k = h k ∙ int_wrap_fits w64 _ (sum_fits _ _ (within_at plane_bound l p k) (within_at plane_bound m q k))

  pub exact_differences : ((k : ℕ) → get_or n k (pos 0) ≡ int_wrap w64 (get_or l k (pos 0) -ℤ get_or m k (pos 0))) → (k : ℕ) → get_or n k (pos 0) ≡ get_or l k (pos 0) -ℤ get_or m k (pos 0)
  exact_differences h k = h k ∙ int_wrap_fits w64 _ (difference_fits _ _ (within_at plane_bound l p k) (within_at plane_bound m q k))

-- ---- arrays filled by a closure
module _ {F B : Type 0} (g : Mut F (ℕ × Unit {0}) B) (f : F) (P : ℕ → B → Type 0) (kept : (i : ℕ) (y : B) (q : F) → Called g f (i, tt) y q → (q ≡ f) × P i y) where
  filled_from : (ys : List B) (d : B) (n i k : ℕ) (p : F) → p ≡ f → IsFromFnResultFrom g p ys i n → i ≤ k → k < i + n → P k (get_or ys k d)
  filled_from ys d zero i k p e r low high = absurd (omega arith)
  filled_from ys d (suc n) i k p e r low high =
      let h = kept i r.1 r.0 (subst (λ x. Called g x (i, tt) r.1 r.0) e r.3) in
      elim (cases_lt i k) [
        | inl lt ↦ filled_from ys d n (i + 1) k r.0 h.0 r.4 (omega arith) (omega arith)
        | inr ge ↦ let same : i ≡ k = omega arith in subst (λ j. P j (get_or ys j d)) same (subst (P i) (sym (r.2.1 d)) h.1)
      ]

  -- what the closure answers at each index, where calls leave it as it was
  pub filled_at : (ys : List B) (n : ℕ) → IsFromFnResult g f ys n → (d : B) (k : ℕ) → k < n → P k (get_or ys k d)
  filled_at ys n r d k lt = filled_from ys d n 0 k f refl r.each (omega arith) (omega arith)

-- ---- a list that is read as a row
fitted_at : (l : List ℤ) (i n k : ℕ) → k < n → get_or (fitted_from i n l) k (pos 0) ≡ get_or l (i + k) (pos 0)
fitted_at l i zero k lt = elim lt [ ]
fitted_at l i (suc n) zero lt = let e : i + 0 ≡ i = omega arith in λ j. get_or l (sym e j) (pos 0)
fitted_at l i (suc n) (suc k) lt = let e : suc i + k ≡ i + suc k = omega arith in fitted_at l (suc i) n k (omega arith) ∙ (λ j. get_or l (e j) (pos 0))

length_fitted : (l : List ℤ) (i n : ℕ) → length (fitted_from i n l) ≡ n
length_fitted l i zero = refl
length_fitted l i (suc n) = λ j. suc (length_fitted l (suc i) n j)

pub fitted_by_all : (l ys : List ℤ) (n : ℕ) → length ys ≡ n → ((k : ℕ) → k < n → get_or ys k (pos 0) ≡ get_or l k (pos 0)) → ys ≡ fitted_from 0 n l
fitted_by_all l ys n e h =
    ext_get_or (pos 0) ys (fitted_from 0 n l) (e ∙ sym (length_fitted l 0 n)) (λ k lt. let small : k < n = omega arith in let from : 0 + k ≡ k = omega arith in h k small ∙ (λ j. get_or l (sym from j) (pos 0)) ∙ sym (fitted_at l 0 n k small))
