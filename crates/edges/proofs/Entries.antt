-- Entries of a chain are equal where their parts are.
use Rattle.std.proofs.Common.{◌≡◌, ℕ, ◌+◌, ◌%◌, Bool, true, false, cond, not, ℤ, ◌*ℤ◌, neg_ℤ, refl}
use mathlib.Core.Bool.{beq}
use Rattle.exact.specs.Cyclotomic.{Cyclotomic, half}
use Rattle.exact.specs.JobNumbers.{Step}
use Rattle.chains.specs.Counts.{Counted}
use Rattle.chains.specs.Books.{Book}
use Rattle.chains.specs.Edges.{Edge, along, edge, reversed, canonical, step_count}
use Rattle.edges.specs.Views.{count_of}
use Rattle.edges.specs.Working.{as_it_stands}

abbrev pub entry : (E : Cyclotomic) → ℕ → ℕ → E.Elem → ℤ → Counted (Edge E)
entry E l j p c = record { what = record { label = l; direction = j; start = p }; count = c }

module _ (E : Cyclotomic) where
  pub entry_same : (l j j' : ℕ) (p p' : E.Elem) (c c' : ℤ) → j ≡ j' → p ≡ p' → c ≡ c' → entry E l j p c ≡ entry E l j' p' c'
  entry_same l j j' p p' c c' e f h = cc

  module _ (B : Book E) where
    module _ (l j : ℕ) (p : E.Elem) (c : ℤ) where
      pub stays : as_it_stands E B (entry E l j p c).what ≡ true → canonical E B (entry E l j p c) ≡ entry E l (j % E.n) p c
      unfolding canonical edge
      stays h = rw h

      pub turns : as_it_stands E B (entry E l j p c).what ≡ false → canonical E B (entry E l j p c) ≡ entry E l ((j + half E) % E.n) (along E B l j p) (neg_ℤ c)
      unfolding canonical edge reversed
      turns h = rw h

    module _ (s : Step) (q : E.Elem) where
      pub goes_forward : s.forward ≡ true → step_count E B s q ≡ entry E s.label (s.direction % E.n) q (count_of false)
      unfolding step_count edge
      goes_forward h = rw h

      pub goes_back : s.forward ≡ false → step_count E B s q ≡ entry E s.label ((s.direction + half E) % E.n) (along E B s.label s.direction q) (count_of true)
      unfolding step_count edge
      goes_back h = rw h

pub count_not : (b : Bool) → count_of (not b) ≡ neg_ℤ (count_of b)
count_not true = refl
count_not false = refl

pub count_mirrored : (b m : Bool) → count_of (not (beq b m)) ≡ cond m (neg_ℤ (count_of b)) (count_of b)
count_mirrored true true = refl
count_mirrored true false = refl
count_mirrored false true = refl
count_mirrored false false = refl

-- taken back twice is not taken back
pub count_times : (a b : Bool) → count_of (not (beq b a)) ≡ count_of a *ℤ count_of b
count_times true true = refl
count_times true false = refl
count_times false true = refl
count_times false false = refl
