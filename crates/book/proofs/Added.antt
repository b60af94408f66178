-- Coefficients add each by itself, in every ring: so sizes of sums, and totals modulo 2^64.
use Rattle.std.proofs.Common.{◌≡◌, ℕ, zero, suc, ◌+◌, ◌*◌, ◌<◌, List, [], ◌∷◌, length, get_or, ℤ, pos, ◌+ℤ◌, sym, refl, ap, ◌∙◌, subst, ap₂, arith, w64, SFits}
use Rattle.std.proofs.lemmas.Int.{ints, int_wrap_fits}
use Rattle.exact.specs.Cyclotomic.{Cyclotomic, CyclotomicLaws}
use Rattle.exact.specs.Residues.{Total, totals}
use Rattle.exact.specs.Sizes.{Between, Within}
use Rattle.exact.specs.Sweeps.{row_total, total_of, coefficients_from, read_total}
use Rattle.exact.proofs.Sizes.{sum_between}
use Rattle.exact.proofs.Totals.{Sums, row_sum, residue_add}
use Rattle.rings.specs.Plane.{sweep_bound}
use Rattle.rings.proofs.Added.{added, list_add}

added_within : (s t : ℕ) (l m : List ℤ) → Within s l → Within t m → Within (s + t) (added l m)
added_within s t [] m p q = tt
added_within s t (a ∷ l) [] p q = tt
added_within s t (a ∷ l) (b ∷ m) p q = (sum_between s t a b p.0 q.0, added_within s t l m p.1 q.1)

added_sums : (l m : List ℤ) → length l ≡ length m → Sums l m (added l m)
added_sums [] [] h = tt
added_sums [] (b ∷ m) h = absurd (omega arith)
added_sums (a ∷ l) [] h = absurd (omega arith)
added_sums (a ∷ l) (b ∷ m) h = (residue_add a b, added_sums l m (omega arith))

module _ (E : Cyclotomic) (L : CyclotomicLaws E) where
  pub sum_within : (s t : ℕ) (x y : E.Elem) → Within s (E.list x) → Within t (E.list y) → Within (s + t) (E.list (E.add x y))
  sum_within s t x y p q = subst (Within (s + t)) (sym (list_add E L x y)) (added_within s t (E.list x) (E.list y) p q)

  pub total_add : (x y : E.Elem) → total_of E (E.add x y) ≡ totals.sum (total_of E x) (total_of E y)
  total_add x y = ap row_total (list_add E L x y) ∙ row_sum (E.list x) (E.list y) (added (E.list x) (E.list y)) (added_sums (E.list x) (E.list y) (L.list_length x ∙ sym (L.list_length y)))

  -- nothing added up
  zero_list : (z : List ℤ) → added z z ≡ z → Within 0 z
  zero_list [] h = tt
  zero_list (a ∷ z) h = (zero_number a (head_same h), zero_list z (tail_same h))
    where
      head_of : List ℤ → ℤ
      head_of [] = pos 0
      head_of (a ∷ l) = a

      tail_of : List ℤ → List ℤ
      tail_of [] = []
      tail_of (a ∷ l) = l

      head_same : {a b : ℤ} {l m : List ℤ} → a ∷ l ≡ b ∷ m → a ≡ b
      head_same e = ap head_of e

      tail_same : {a b : ℤ} {l m : List ℤ} → a ∷ l ≡ b ∷ m → l ≡ m
      tail_same e = ap tail_of e

      zero_number : (a : ℤ) → a +ℤ a ≡ a → Between 0 a
      zero_number a h = omega (arith, ints)

  pub zero_within : Within 0 (E.list E.zero)
  zero_within = zero_list (E.list E.zero) (sym (list_add E L E.zero E.zero) ∙ ap E.list (L.ring.add-zero E.zero))

-- ---- a total that does not wrap is the number itself
fits : (a : ℤ) → Between (12 * sweep_bound) a → SFits w64 a
fits a h = omega (arith, ints)

row_at : (l : List ℤ) → Within (12 * sweep_bound) l → (i : ℕ) → i < length l → (row_total l i).at ≡ get_or l i (pos 0)
row_at [] h i k = absurd (omega arith)
row_at (a ∷ l) h zero k = int_wrap_fits w64 a (fits a h.0)
row_at (a ∷ l) h (suc i) k = row_at l h.1 i (omega arith)

reads_back : (l : List ℤ) (t : Total) (k : ℕ) → ((i : ℕ) → i < length l → (t (k + i)).at ≡ get_or l i (pos 0)) → coefficients_from k (length l) t ≡ l
reads_back [] t k h = refl
reads_back (a ∷ l) t k h =
    ap₂ ◌∷◌ (ap (λ n. (t n).at) (here k) ∙ h 0 (omega arith)) (reads_back l t (suc k) (λ i m. ap (λ n. (t n).at) (there k i) ∙ h (suc i) (omega arith)))
  where
    here : (k : ℕ) → k ≡ k + 0
    here k = omega arith

    there : (k i : ℕ) → suc k + i ≡ k + suc i
    there k i = omega arith

pub read_total_of : (E : Cyclotomic) → CyclotomicLaws E → (z : E.Elem) → Within (12 * sweep_bound) (E.list z) → read_total E (total_of E z) ≡ z
read_total_of E L z h =
    ap (λ n. E.of (coefficients_from 0 n (total_of E z))) (sym (L.list_length z))
    ∙ ap E.of (reads_back (E.list z) (total_of E z) 0 (λ i m. ap (λ n. (total_of E z n).at) (start i) ∙ row_at (E.list z) h i m)) ∙ L.of_list z
  where
    start : (i : ℕ) → 0 + i ≡ i
    start i = omega arith
