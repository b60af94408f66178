-- Things with whole counts, and what they add up to.
use Rattle.std.specs.Prelude.{Bool, cond, List, [], ◌∷◌, ℤ, pos, ◌+ℤ◌, ◌*ℤ◌}
use Rattle.exact.specs.Groups.{AbelianGroup, times}

pub record Counted (K : Type 0) : Type 0 where
  pub what : K
  pub count : ℤ

-- every count multiplied by c
unfoldable pub scaled : {K : Type 0} → ℤ → List (Counted K) → List (Counted K)
scaled c [] = []
scaled c (x ∷ xs) = record { what = x.what; count = c *ℤ x.count } ∷ scaled c xs

-- the sum of the counts of k
unfoldable pub tally : {K : Type 0} → (K → K → Bool) → List (Counted K) → K → ℤ
tally same [] k = pos 0
tally same (x ∷ xs) k = cond (same x.what k) x.count (pos 0) +ℤ tally same xs k

-- the sum of count times value, in a commutative group
unfoldable pub reading : {K : Type 0} → (G : AbelianGroup) → (K → G.Val) → List (Counted K) → G.Val
reading G r [] = G.zero
reading G r (x ∷ xs) = G.sum (times G x.count (r x.what)) (reading G r xs)
