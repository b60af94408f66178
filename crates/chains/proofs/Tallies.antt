-- A sum of readings depends on the net counts alone.
use Rattle.std.proofs.Common.{◌≡◌, ℕ, zero, suc, ◌≤◌, Bool, true, false, cond, ◌↔◌, List, [], ◌∷◌, ◌++◌, length, ℤ, pos, ◌+ℤ◌, ◌-ℤ◌, ◌*ℤ◌, neg_ℤ, sym, refl, ap, ◌∙◌, ap₂, true≢false, arith}
use mathlib.Core.Bool.{false≢true}
use lib.IntN.{+ℤ_idl, +ℤ_assoc, *ℤ-zero}
use Rattle.std.proofs.lemmas.Int.{ints}
use Rattle.exact.specs.Groups.{AbelianGroup, AbelianLaws, times}
use Rattle.chains.specs.Counts.{Counted, tally, reading, scaled}
use Rattle.rings.proofs.Multiples as groups

-- every count with its sign turned
unfoldable pub negated : {K : Type 0} → List (Counted K) → List (Counted K)
negated [] = []
negated (x ∷ xs) = record { what = x.what; count = neg_ℤ x.count } ∷ negated xs

plus_neg : (a b s u : ℤ) → a ≡ neg_ℤ s → b ≡ neg_ℤ u → a +ℤ b ≡ neg_ℤ (s +ℤ u)
plus_neg a b s u h k = omega (arith, ints)

module _ {K : Type 0} (same : K → K → Bool) where
  pub tally_append : (xs ys : List (Counted K)) (k : K) → tally same (xs ++ ys) k ≡ tally same xs k +ℤ tally same ys k
  unfolding tally
  tally_append [] ys k = sym (+ℤ_idl _)
  tally_append (x ∷ xs) ys k = ap (◌+ℤ◌ _) (tally_append xs ys k) ∙ sym (+ℤ_assoc (cond (same x.what k) x.count (pos 0)) _ _)

  neg_cond : (b : Bool) (c : ℤ) → cond b (neg_ℤ c) (pos 0) ≡ neg_ℤ (cond b c (pos 0))
  neg_cond true c = refl
  neg_cond false c = refl

  pub tally_negated : (xs : List (Counted K)) (k : K) → tally same (negated xs) k ≡ neg_ℤ (tally same xs k)
  unfolding tally negated
  tally_negated [] k = refl
  tally_negated (x ∷ xs) k = plus_neg _ _ (cond (same x.what k) x.count (pos 0)) (tally same xs k) (neg_cond (same x.what k) x.count) (tally_negated xs k)

  mul_cond : (b : Bool) (c d : ℤ) → cond b (c *ℤ d) (pos 0) ≡ c *ℤ cond b d (pos 0)
  mul_cond true c d = refl
  mul_cond false c d = sym (*ℤ-zero c)

  pub tally_scaled : (c : ℤ) (xs : List (Counted K)) (k : K) → tally same (scaled c xs) k ≡ c *ℤ tally same xs k
  unfolding tally scaled
  tally_scaled c [] k = sym (*ℤ-zero c)
  tally_scaled c (x ∷ xs) k = ap₂ ◌+ℤ◌ (mul_cond (same x.what k) c x.count) (tally_scaled c xs k) ∙ sym (groups.mul_sum c (cond (same x.what k) x.count (pos 0)) (tally same xs k))

  -- the entries that are not k
  unfoldable without : K → List (Counted K) → List (Counted K)
  without k [] = []
  without k (x ∷ xs) = cond (same x.what k) (without k xs) (x ∷ without k xs)

  length_without : (k : K) (xs : List (Counted K)) → length (without k xs) ≤ length xs
  unfolding without
  length_without k [] = omega arith
  length_without k (x ∷ xs) = go (same x.what k) (length_without k xs)
    where
      go : (b : Bool) → length (without k xs) ≤ length xs → length (cond b (without k xs) (x ∷ without k xs)) ≤ suc (length xs)
      go true h = omega arith
      go false h = omega arith

  module _ (same-is : (x y : K) → (same x y ≡ true) ↔ (x ≡ y)) where
    tally_without : (k j : K) (xs : List (Counted K)) → tally same (without k xs) j ≡ tally same xs j -ℤ cond (same k j) (tally same xs k) (pos 0)
    unfolding tally without
    tally_without k j [] = go (same k j)
      where
        go : (b : Bool) → pos 0 ≡ pos 0 -ℤ cond b (pos 0) (pos 0)
        go true = refl
        go false = refl
    tally_without k j (x ∷ xs) = go (same x.what k) refl (same k j) refl (tally same xs j) (tally same xs k) (tally_without k j xs)
      where
        go : (b : Bool) → same x.what k ≡ b → (d : Bool) → same k j ≡ d → (t u : ℤ) → tally same (without k xs) j ≡ t -ℤ cond d u (pos 0)
            → tally same (cond b (without k xs) (x ∷ without k xs)) j ≡ (cond (same x.what j) x.count (pos 0) +ℤ t) -ℤ cond d (cond b x.count (pos 0) +ℤ u) (pos 0)
        go true e d f t u h = h ∙ drop d (same x.what j) x.count t u (sym f ∙ sym (ap (λ z. same z j) ((same-is _ _).0 e)))
          where
            drop : (d b : Bool) (c t u : ℤ) → d ≡ b → t -ℤ cond d u (pos 0) ≡ (cond b c (pos 0) +ℤ t) -ℤ cond d (c +ℤ u) (pos 0)
            drop true true c t u h = omega (arith, ints)
            drop true false c t u h = absurd (true≢false h)
            drop false true c t u h = absurd (false≢true h)
            drop false false c t u h = omega (arith, ints)
        go false e d f t u h = keep d (cond (same x.what j) x.count (pos 0)) _ t u h
          where
            keep : (d : Bool) (c s t u : ℤ) → s ≡ t -ℤ cond d u (pos 0) → c +ℤ s ≡ (c +ℤ t) -ℤ cond d (pos 0 +ℤ u) (pos 0)
            keep true c s t u h = omega (arith, ints)
            keep false c s t u h = omega (arith, ints)

    -- with no net count, none is left when the entries that are k go
    still_none : (k : K) (xs : List (Counted K)) → ((j : K) → tally same xs j ≡ pos 0) → (j : K) → tally same (without k xs) j ≡ pos 0
    still_none k xs h j = tally_without k j xs ∙ go (same k j) _ _ (h j) (h k)
      where
        go : (b : Bool) (t u : ℤ) → t ≡ pos 0 → u ≡ pos 0 → t -ℤ cond b u (pos 0) ≡ pos 0
        go true t u p q = omega (arith, ints)
        go false t u p q = omega (arith, ints)

    same_self : (k : K) → same k k ≡ true
    same_self k = (same-is k k).1 refl

module _ {K : Type 0} (G : AbelianGroup) (L : AbelianLaws G) (r : K → G.Val) where
  pub reading_append : (xs ys : List (Counted K)) → reading G r (xs ++ ys) ≡ G.sum (reading G r xs) (reading G r ys)
  unfolding reading
  reading_append [] ys = sym (groups.zero_sum G L _)
  reading_append (x ∷ xs) ys = ap (G.sum _) (reading_append xs ys) ∙ sym (L.sum_assoc _ _ _)

  pub reading_negated : (xs : List (Counted K)) → reading G r (negated xs) ≡ G.opposite (reading G r xs)
  unfolding reading negated
  reading_negated [] = sym (groups.opposite_zero G L)
  reading_negated (x ∷ xs) = ap₂ G.sum (groups.times_neg G L x.count (r x.what)) (reading_negated xs) ∙ sym (groups.opposite_sum G L _ _)

  module _ (same : K → K → Bool) (same-is : (x y : K) → (same x y ≡ true) ↔ (x ≡ y)) where
    split : (k : K) (xs : List (Counted K)) → reading G r xs ≡ G.sum (times G (tally same xs k) (r k)) (reading G r (without same k xs))
    unfolding tally reading without
    split k [] = sym (ap (λ z. G.sum z G.zero) (groups.times_zero G L (r k)) ∙ L.sum_zero _)
    split k (x ∷ xs) = ap (G.sum _) (split k xs) ∙ go (same x.what k) refl (tally same xs k)
      where
        go : (b : Bool) → same x.what k ≡ b → (t : ℤ)
            → G.sum (times G x.count (r x.what)) (G.sum (times G t (r k)) (reading G r (without same k xs)))
            ≡ G.sum (times G (cond b x.count (pos 0) +ℤ t) (r k)) (reading G r (cond b (without same k xs) (x ∷ without same k xs)))
        go true e t = sym (L.sum_assoc _ _ _) ∙ ap₂ G.sum (ap (λ z. G.sum (times G x.count (r z)) (times G t (r k))) ((same-is _ _).0 e) ∙ sym (groups.times_add G L x.count t (r k))) refl
        go false e t = groups.left_comm G L _ _ _ ∙ ap₂ G.sum (ap (λ z. times G z (r k)) (sym (+ℤ_idl t))) refl

    -- no net count, no reading
    vanishes : (fuel : ℕ) (xs : List (Counted K)) → length xs ≤ fuel → ((j : K) → tally same xs j ≡ pos 0) → reading G r xs ≡ G.zero
    unfolding reading without
    vanishes fuel [] l h = refl
    vanishes zero (x ∷ xs) l h = absurd (omega arith)
    vanishes (suc fuel) (x ∷ xs) l h =
        split x.what (x ∷ xs)
        ∙ ap₂ G.sum (ap (λ z. times G z (r x.what)) (h x.what) ∙ groups.times_zero G L _) refl
        ∙ groups.zero_sum G L _
        ∙ vanishes fuel (without same x.what (x ∷ xs)) (shorter (same x.what x.what) (same_self same same-is x.what)) (still_none same same-is x.what (x ∷ xs) h)
      where
        shorter : (b : Bool) → b ≡ true → length (cond b (without same x.what xs) (x ∷ without same x.what xs)) ≤ fuel
        shorter true e = let k = length_without same x.what xs in omega arith
        shorter false e = absurd (false≢true e)

    -- chains with the same net counts have the same reading
    pub agrees : (xs ys : List (Counted K)) → ((k : K) → tally same xs k ≡ tally same ys k) → reading G r xs ≡ reading G r ys
    agrees xs ys h = sym (groups.opposite_opposite G L _) ∙ ap G.opposite (sym e) ∙ groups.opposite_opposite G L _
      where
        none : (a b : ℤ) → a ≡ b → a +ℤ neg_ℤ b ≡ pos 0
        none a b p = omega (arith, ints)

        both : G.sum (reading G r xs) (G.opposite (reading G r ys)) ≡ G.zero
        both = ap (G.sum _) (sym (reading_negated ys)) ∙ sym (reading_append xs (negated ys))
            ∙ vanishes (length (xs ++ negated ys)) (xs ++ negated ys) (omega arith) (λ k. tally_append same xs (negated ys) k ∙ ap (◌+ℤ◌ (tally same xs k)) (tally_negated same ys k) ∙ none _ _ (h k))

        e : G.opposite (reading G r ys) ≡ G.opposite (reading G r xs)
        e = groups.opposite_is G L _ _ both
