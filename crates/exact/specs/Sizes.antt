-- The size of coefficients, and by how much operations enlarge it.
use Rattle.std.specs.Prelude.{ℕ, ◌+◌, ◌*◌, List, [], ◌∷◌, ℤ, pos, neg_ℤ, ◌≤ℤ◌}
use Rattle.exact.specs.Cyclotomic.{Cyclotomic, power}

-- c is at most s in size: from -s to s
abbrev pub Between : ℕ → ℤ → Type 0
Between s c = (neg_ℤ (pos s) ≤ℤ c) × (c ≤ℤ pos s)

-- all coefficients are at most s in size
abbrev pub Within : ℕ → List ℤ → Type 0
Within s [] = Unit {0}
Within s (c ∷ cs) = Between s c × Within s cs

-- The factors by which the largest coefficient may grow: twice by a turn or a conjugation, eightfold by a product.
pub record SizeLaws (E : Cyclotomic) : Type 0 where
  pub sum_size : (s t : ℕ) (x y : E.Elem) → Within s (E.list x) → Within t (E.list y) → Within (s + t) (E.list (E.add x y))
  pub neg_size : (s : ℕ) (x : E.Elem) → Within s (E.list x) → Within s (E.list (E.neg x))
  pub conj_size : (s : ℕ) (x : E.Elem) → Within s (E.list x) → Within (2 * s) (E.list (E.conj x))
  pub turn_size : (k s : ℕ) (x : E.Elem) → Within s (E.list x) → Within (2 * s) (E.list (E.mul (power E k) x))
  pub mul_size : (s t : ℕ) (x y : E.Elem) → Within s (E.list x) → Within t (E.list y) → Within (8 * (s * t)) (E.list (E.mul x y))
