-- Readings added up from the front of a chain on.
use Rattle.std.proofs.Common.{◌≡◌, List, [], ◌∷◌, ◌++◌, sym, refl, ap, ◌∙◌}
use Rattle.exact.specs.Groups.{AbelianGroup, AbelianLaws, times}
use Rattle.rings.proofs.Multiples as multiples
use Rattle.chains.specs.Counts.{Counted, reading}
use Rattle.chains.proofs.Tallies as tallies

module _ {K : Type 0} (G : AbelianGroup) (L : AbelianLaws G) (r : K → G.Val) where
  pub no_reading : reading G r [] ≡ G.zero
  unfolding reading
  no_reading = refl

  -- nothing has been added up yet
  pub begins : (a : G.Val) (xs : List (Counted K)) → a ≡ G.zero → G.sum a (reading G r xs) ≡ reading G r xs
  begins a xs e = ap (λ z. G.sum z (reading G r xs)) e ∙ multiples.zero_sum G L _

  -- nothing is left
  pub ends : (a t : G.Val) (xs : List (Counted K)) → xs ≡ [] → G.sum a (reading G r xs) ≡ t → a ≡ t
  ends a t xs e h = sym (L.sum_zero a) ∙ ap (G.sum a) (sym (ap (reading G r) e ∙ no_reading)) ∙ h

  module _ (a b a' t : G.Val) (more : a' ≡ G.sum a b) where
    regrouped : (u v : G.Val) → v ≡ G.sum b u → G.sum a v ≡ t → G.sum a' u ≡ t
    regrouped u v e h = ap (λ z. G.sum z u) more ∙ L.sum_assoc a b u ∙ ap (G.sum a) (sym e) ∙ h

    -- one more entry
    pub adds : (x : Counted K) (xs ys : List (Counted K)) → ys ≡ x ∷ xs → b ≡ times G x.count (r x.what) → G.sum a (reading G r ys) ≡ t → G.sum a' (reading G r xs) ≡ t
    unfolding reading
    adds x xs ys e k h = regrouped (reading G r xs) (reading G r ys) (ap (reading G r) e ∙ ap (λ z. G.sum z (reading G r xs)) (sym k)) h

    -- some more
    pub adds_some : (zs xs ys : List (Counted K)) → ys ≡ zs ++ xs → b ≡ reading G r zs → G.sum a (reading G r ys) ≡ t → G.sum a' (reading G r xs) ≡ t
    adds_some zs xs ys e k h = regrouped (reading G r xs) (reading G r ys) (ap (reading G r) e ∙ tallies.reading_append G L r zs xs ∙ ap (λ z. G.sum z (reading G r xs)) (sym k)) h
