-- Directions that are reduced before they are added.
use Rattle.std.proofs.Common.{◌≡◌, ℕ, ◌+◌, ◌-◌, ◌%◌, ◌∙◌, ap₂}
use native.Mathlib.Nat.{add-mod-mod, mod-add-mod}
use Rattle.exact.specs.Cyclotomic.{Cyclotomic, half}
use Rattle.chains.specs.Edges.{plus_turn, minus_turn}

module _ (E : Cyclotomic) (k j a b r : ℕ) (ka : a ≡ k % E.n) (jb : b ≡ j % E.n) where
  pub sum_is : r ≡ (a + b) % E.n → r ≡ plus_turn E k j
  unfolding plus_turn
  sum_is h = h ∙ ap₂ (λ x y. (x + y) % E.n) ka jb ∙ add-mod-mod (k % E.n) j E.n ∙ mod-add-mod k E.n j

  pub difference_is : (n : ℕ) → n ≡ E.n → r ≡ (a + (n - b)) % E.n → r ≡ minus_turn E k j
  unfolding minus_turn
  difference_is n e h = h ∙ ap₂ (λ x y. (x + y) % E.n) ka (ap₂ (λ x y. x - y) e jb) ∙ mod-add-mod k E.n (E.n - j % E.n)

pub opposed_is : (E : Cyclotomic) (j a h r : ℕ) → a ≡ j % E.n → h ≡ half E → r ≡ (a + h) % E.n → r ≡ (j + half E) % E.n
opposed_is E j a h r ja hh e = e ∙ ap₂ (λ x y. (x + y) % E.n) ja hh ∙ mod-add-mod j E.n (half E)
