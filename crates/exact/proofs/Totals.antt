-- Numbers modulo 2^64, and rows of them, form commutative groups.
use Rattle.std.proofs.Common.{◌≡◌, ℕ, zero, suc, ◌≤◌, List, [], ◌∷◌, length, ℤ, pos, ◌+ℤ◌, ◌-ℤ◌, neg_ℤ, slice_index_or, sym, refl, ap, ◌∙◌, w64}
use mathlib.Core.HLevel.{is_prop→PathP}
use lib.IntN.{ℤ_set, +ℤ_assoc, +ℤ_comm, +ℤ_idr, +ℤ_idl, +ℤ_invr}
use Rattle.std.specs.Int.{int_wrap}
use Rattle.std.proofs.lemmas.Int.{int_wrap-add_left, int_wrap-add_right, int_wrap-sub_right}
use Rattle.exact.specs.Groups.{AbelianLaws}
use lib.ListN.{get_or-eq_default}
use Rattle.exact.specs.Residues.{Residue, residue, totals}
use Rattle.exact.specs.Sweeps.{row_total}

pub residue_same : (x y : Residue) → x.at ≡ y.at → x ≡ y
residue_same x y p = λ i. record { at = p i; kept = is_prop→PathP (λ i. int_wrap w64 (p i) ≡ p i) (λ i. ℤ_set (int_wrap w64 (p i)) (p i)) x.kept y.kept i }

abbrev plus : Residue → Residue → Residue
plus x y = residue (x.at +ℤ y.at)

abbrev less : Residue → Residue
less x = residue (neg_ℤ x.at)

pub residue_at : (x : Residue) → residue x.at ≡ x
residue_at x = residue_same _ _ x.kept

plus_assoc : (x y z : Residue) → plus (plus x y) z ≡ plus x (plus y z)
plus_assoc x y z =
    residue_same _ _ (int_wrap-add_left w64 (x.at +ℤ y.at) z.at ∙ ap (int_wrap w64) (+ℤ_assoc x.at y.at z.at) ∙ sym (int_wrap-add_right w64 x.at (y.at +ℤ z.at)))

plus_comm : (x y : Residue) → plus x y ≡ plus y x
plus_comm x y = ap residue (+ℤ_comm x.at y.at)

plus_zero : (x : Residue) → plus x (residue (pos 0)) ≡ x
plus_zero x = residue_same _ _ (int_wrap-add_right w64 x.at (pos 0) ∙ ap (int_wrap w64) (+ℤ_idr x.at) ∙ x.kept)

plus_less : (x : Residue) → plus x (less x) ≡ residue (pos 0)
plus_less x = residue_same _ _ (int_wrap-add_right w64 x.at (neg_ℤ x.at) ∙ ap (int_wrap w64) (+ℤ_invr x.at))

-- what is added up modulo 2^64 is the sum modulo 2^64
pub residue_add : (a b : ℤ) → residue (a +ℤ b) ≡ plus (residue a) (residue b)
residue_add a b = residue_same _ _ (sym (int_wrap-add_left w64 a (int_wrap w64 b) ∙ int_wrap-add_right w64 a b))

pub residue_neg : (a : ℤ) → residue (pos 0 +ℤ neg_ℤ a) ≡ less (residue a)
residue_neg a = ap residue (+ℤ_idl (neg_ℤ a)) ∙ residue_same _ _ (ap (int_wrap w64) (sym (+ℤ_idl (neg_ℤ a))) ∙ sym (int_wrap-sub_right w64 (pos 0) a) ∙ ap (int_wrap w64) (+ℤ_idl (neg_ℤ (int_wrap w64 a))))

pub totals_laws : AbelianLaws totals
totals_laws = record {
  sum_comm = λ x y i k. plus_comm (x k) (y k) i;
  sum_assoc = λ x y z i k. plus_assoc (x k) (y k) (z k) i;
  sum_zero = λ x i k. plus_zero (x k) i;
  sum_opposite = λ x i k. plus_less (x k) i;
}

-- ---- totals of listed coefficients, coefficient by coefficient
abbrev pub Zeros : List ℤ → Type 0
Zeros [] = Unit {0}
Zeros (a ∷ l) = (residue a ≡ residue (pos 0)) × Zeros l

abbrev pub Sums : List ℤ → List ℤ → List ℤ → Type 0
Sums [] [] [] = Unit {0}
Sums [] [] (c ∷ n) = ⊥
Sums [] (b ∷ m) n = ⊥
Sums (a ∷ l) [] n = ⊥
Sums (a ∷ l) (b ∷ m) [] = ⊥
Sums (a ∷ l) (b ∷ m) (c ∷ n) = (residue c ≡ plus (residue a) (residue b)) × Sums l m n

abbrev pub Opposites : List ℤ → List ℤ → Type 0
Opposites [] [] = Unit {0}
Opposites [] (b ∷ m) = ⊥
Opposites (a ∷ l) [] = ⊥
Opposites (a ∷ l) (b ∷ m) = (residue b ≡ less (residue a)) × Opposites l m

zero_at : (l : List ℤ) → Zeros l → (k : ℕ) → row_total l k ≡ residue (pos 0)
zero_at [] h k = refl
zero_at (a ∷ l) h zero = h.0
zero_at (a ∷ l) h (suc k) = zero_at l h.1 k

sum_at : (l m n : List ℤ) → Sums l m n → (k : ℕ) → row_total n k ≡ plus (row_total l k) (row_total m k)
sum_at [] [] [] h k = residue_add (pos 0) (pos 0)
sum_at [] [] (c ∷ n) h k = absurd h
sum_at [] (b ∷ m) n h k = absurd h
sum_at (a ∷ l) [] n h k = absurd h
sum_at (a ∷ l) (b ∷ m) [] h k = absurd h
sum_at (a ∷ l) (b ∷ m) (c ∷ n) h zero = h.0
sum_at (a ∷ l) (b ∷ m) (c ∷ n) h (suc k) = sum_at l m n h.1 k

opposite_at : (l m : List ℤ) → Opposites l m → (k : ℕ) → row_total m k ≡ less (row_total l k)
opposite_at [] [] h k = residue_neg (pos 0)
opposite_at [] (b ∷ m) h k = absurd h
opposite_at (a ∷ l) [] h k = absurd h
opposite_at (a ∷ l) (b ∷ m) h zero = h.0
opposite_at (a ∷ l) (b ∷ m) h (suc k) = opposite_at l m h.1 k

pub row_zero : (l : List ℤ) → Zeros l → row_total l ≡ totals.zero
row_zero l h = λ i k. zero_at l h k i

pub row_sum : (l m n : List ℤ) → Sums l m n → row_total n ≡ totals.sum (row_total l) (row_total m)
row_sum l m n h = λ i k. sum_at l m n h k i

pub row_opposite : (l m : List ℤ) → Opposites l m → row_total m ≡ totals.opposite (row_total l)
row_opposite l m h = λ i k. opposite_at l m h k i

-- ---- the same of rows that the machine worked out, number by number
pub total_zero : (l : List ℤ) → ((k : ℕ) → slice_index_or l k (pos 0) ≡ pos 0) → row_total l ≡ totals.zero
total_zero l h = λ i k. residue (h k i)

pub total_sum : (l m n : List ℤ) → ((k : ℕ) → slice_index_or n k (pos 0) ≡ int_wrap w64 (slice_index_or l k (pos 0) +ℤ slice_index_or m k (pos 0))) → row_total n ≡ totals.sum (row_total l) (row_total m)
total_sum l m n h = λ i k. at k i
  where
    at : (k : ℕ) → row_total n k ≡ plus (row_total l k) (row_total m k)
    at k =
        let a = slice_index_or l k (pos 0) in
        let b = slice_index_or m k (pos 0) in
        ap residue (h k) ∙ residue_at (residue (a +ℤ b)) ∙ residue_add a b

-- z is a row of zeros
pub total_opposite : (z l m : List ℤ) → ((k : ℕ) → slice_index_or z k (pos 0) ≡ pos 0) → ((k : ℕ) → slice_index_or m k (pos 0) ≡ int_wrap w64 (slice_index_or z k (pos 0) -ℤ slice_index_or l k (pos 0))) → row_total m ≡ totals.opposite (row_total l)
total_opposite z l m e h = λ i k. at k i
  where
    at : (k : ℕ) → row_total m k ≡ less (row_total l k)
    at k =
        let a = slice_index_or l k (pos 0) in
        ap residue (h k ∙ ap (λ x. int_wrap w64 (x -ℤ a)) (e k)) ∙ residue_at (residue (pos 0 -ℤ a)) ∙ residue_neg a

pub row_ends : (l : List ℤ) (k : ℕ) → length l ≤ k → row_total l k ≡ residue (pos 0)
row_ends l k h = ap residue (get_or-eq_default l (pos 0) h)
