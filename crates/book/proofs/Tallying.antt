-- Tests of edges, and sums of counts.
use Rattle.std.proofs.Common.{◌≡◌, ℕ, suc, ◌+◌, ◌≤◌, Bool, true, false, ◌&&◌, ◌==◌, cond, List, [], ◌∷◌, map, length, fold, Option, ℤ, pos, ◌+ℤ◌, neg_ℤ, ◌≤ℤ◌, FitsSigned, w64, sym, refl, ap, ◌∙◌, subst, arith}
use Rattle.std.specs.Iterator.{Yields, AlwaysYields}
use Rattle.std.specs.Iterator.Runs.{EachRunFrom, YieldsRun}
use Rattle.std.proofs.lemmas.Iterator.{YieldsList}
use Rattle.std.proofs.lemmas.Int.{ints}
use Rattle.chains.specs.Counts.{Counted, tally}
use Rattle.exact.specs.Cyclotomic.{Cyclotomic, same_element}
use Rattle.chains.specs.Edges.{same_edge}
use Rattle.edges.specs.declared.rows.Edge.{Edge as Row}
use Rattle.edges.specs.Views.{edge_view, count_of}

and_assoc : (a b c : Bool) → (a && b) && c ≡ a && (b && c)
and_assoc true b c = refl
and_assoc false b c = refl

-- `==` of rows, whose starts `eq` compares, is that of the edges that they stand for
pub edges_equal : {S : Type 0} (E : Cyclotomic) (v : S → E.Elem) (eq : S → S → Bool) → ((a b : S) (t : Bool) → t ≡ eq a b → t ≡ same_element E (v a) (v b)) →
    (x y : Row S) → same_edge E (edge_view E v x) (edge_view E v y) ≡ (x.label == y.label && (x.direction == y.direction && eq x.start y.start))
unfolding same_edge
edges_equal E v eq decided x y = and_assoc (x.label == y.label) (x.direction == y.direction) _ ∙ ap (λ t. x.label == y.label && (x.direction == y.direction && t)) (sym (decided x.start y.start _ refl))

abbrev pub Near : ℕ → ℤ → Type 0
Near n z = (neg_ℤ (pos n) ≤ℤ z) × (z ≤ℤ pos n)

-- sums of shares: what an entry adds to the count of k
module _ {X K : Type 0} (same : K → K → Bool) (f : X → Counted K) (k : K) where
  abbrev pub share_of : X → ℤ
  share_of x = cond (same (f x).what k) (f x).count (pos 0)

  -- a sum from the left is the tally from the right
  pub total : (xs : List X) (a : ℤ) → fold ◌+ℤ◌ a (map share_of xs) ≡ a +ℤ tally same (map f xs) k
  unfolding tally
  total [] a = omega (arith, ints)
  total (x ∷ xs) a = total xs (a +ℤ share_of x) ∙ regroup a (share_of x) (tally same (map f xs) k)
    where
      regroup : (a b c : ℤ) → (a +ℤ b) +ℤ c ≡ a +ℤ (b +ℤ c)
      regroup a b c = omega (arith, ints)

  -- where every count is 1 or -1 a sum is no larger than its entries are many
  module _ (small : (x : X) → Near 1 (f x).count) where
    share_small : (x : X) → Near 1 (share_of x)
    share_small x = either (same (f x).what k) (f x).count (small x)
      where
        either : (b : Bool) (c : ℤ) → Near 1 c → Near 1 (cond b c (pos 0))
        either true c h = h
        either false c h = (omega (arith, ints), omega (arith, ints))

    pub tally_small : (xs : List X) → Near (length xs) (tally same (map f xs) k)
    unfolding tally
    tally_small [] = (omega (arith, ints), omega (arith, ints))
    tally_small (x ∷ xs) = next (length xs) (tally same (map f xs) k) (share_of x) (tally_small xs) (share_small x)
      where
        next : (n : ℕ) (t s : ℤ) → Near n t → Near 1 s → Near (suc n) (s +ℤ t)
        next n t s h k = (omega (arith, ints), omega (arith, ints))

    -- what the first items of a chain add up to
    part_small : {T : Type 0} (steps : T → Option ℤ → T → Type 0) (xs : List ℤ) (ys : List X) (s t : T) (a : ℤ) (n m : ℕ) → n + length ys ≤ m → Near n a →
        AlwaysYields steps (λ x. x) s (map share_of ys) → Yields steps s xs t → Near m (fold ◌+ℤ◌ a xs)
    part_small steps [] ys s t a n m l h e y = wider n m a (omega arith) h
      where
        wider : (n m : ℕ) (a : ℤ) → n ≤ m → Near n a → Near m a
        wider n m a l h = (omega (arith, ints), omega (arith, ints))
    part_small steps (x ∷ xs) [] s t a n m l h e y = absurd (e x y.0 y.1)
    part_small steps (x ∷ xs) (z ∷ ys) s t a n m l h e y =
        part_small steps xs ys y.0 t (a +ℤ x) (suc n) m (omega arith) (next n a x h (subst (Near 1) (sym (e.1 x y.0 y.1).0) (share_small z))) (e.1 x y.0 y.1).1 y.2
      where
        next : (n : ℕ) (t s : ℤ) → Near n t → Near 1 s → Near (suc n) (t +ℤ s)
        next n t s h k = (omega (arith, ints), omega (arith, ints))

    pub sum_fits : {T : Type 0} (steps : T → Option ℤ → T → Type 0) (s : T) (xs : List X) → length xs ≤ 65536 → YieldsList steps (λ x. x) s (map share_of xs) → EachRunFrom steps s (λ p. FitsSigned w64 (fold ◌+ℤ◌ (pos 0) p.items))
    unfolding YieldsRun
    sum_fits steps s xs l road =
        λ p _ at.
        fits _
        (part_small steps p.items xs s p.gave.0.0 (pos 0) 0 65536 (omega arith) (omega (arith, ints), omega (arith, ints)) road.runs (subst (λ u. Yields steps u p.items p.gave.0.0) at p.gave.0.1))
      where
        fits : (z : ℤ) → Near 65536 z → FitsSigned w64 z
        fits z h = omega (arith, ints)

pub count_small : (b : Bool) → Near 1 (count_of b)
count_small true = (omega (arith, ints), omega (arith, ints))
count_small false = (omega (arith, ints), omega (arith, ints))
