-- Commutative groups: what totals and readings add up in.
use Rattle.std.specs.Prelude.{◌≡◌, ℕ, ℤ, pos, negsuc}

pub record AbelianGroup : Type 1 where
  pub Val : Type 0
  pub zero : Val
  pub sum : Val → Val → Val
  pub opposite : Val → Val

pub record AbelianLaws (G : AbelianGroup) : Type 0 where
  pub sum_comm : (x y : G.Val) → G.sum x y ≡ G.sum y x
  pub sum_assoc : (x y z : G.Val) → G.sum (G.sum x y) z ≡ G.sum x (G.sum y z)
  pub sum_zero : (x : G.Val) → G.sum x G.zero ≡ x
  pub sum_opposite : (x : G.Val) → G.sum x (G.opposite x) ≡ G.zero

-- a value added to itself k times, and a whole number of times
unfoldable pub repeated : (G : AbelianGroup) → ℕ → G.Val → G.Val
repeated G ℕ.zero v = G.zero
repeated G (ℕ.suc k) v = G.sum v (repeated G k v)

unfoldable pub times : (G : AbelianGroup) → ℤ → G.Val → G.Val
times G (pos k) v = repeated G k v
times G (negsuc k) v = G.opposite (repeated G (ℕ.suc k) v)
