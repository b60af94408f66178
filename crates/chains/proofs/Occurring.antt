-- An edge that does not occur has no net count, so a check of those that do suffices.
use Rattle.std.proofs.Common.{◌≡◌, Bool, true, false, cond, ◌⊎◌, [], ◌∷◌, ◌++◌, map, pos, ◌+ℤ◌, sym, refl, ap, ◌∙◌, subst, inl, inr}
use Rattle.std.specs.List.{AllByRecursion}
use Rattle.exact.specs.Cyclotomic.{Cyclotomic, CyclotomicLaws}
use Rattle.chains.specs.Counts.{tally}
use Rattle.chains.specs.Books.{Book}
use Rattle.chains.specs.Edges.{Edge, Chain, same_edge, canonical, net, SameNet}
use Rattle.chains.proofs.Lists.{all_front, all_back}
use Rattle.chains.proofs.Edges as edges

module _ (E : Cyclotomic) (L : CyclotomicLaws E) (B : Book E) where
  -- what holds at each edge of c holds at y, which is one of them, or else y's net count is 0
  met : (P : Edge E → Type 0) (c : Chain E) (y : Edge E) → AllByRecursion (λ x. P (canonical E B x).what) c → P y ⊎ (net E B c y ≡ pos 0)
  unfolding net tally
  met P [] y h = inr refl
  met P (x ∷ xs) y h = go (same_edge E (canonical E B x).what y) refl (met P xs y h.1)
    where
      go : (b : Bool) → same_edge E (canonical E B x).what y ≡ b → P y ⊎ (tally (same_edge E) (map (canonical E B) xs) y ≡ pos 0)
          → P y ⊎ (cond b (canonical E B x).count (pos 0) +ℤ tally (same_edge E) (map (canonical E B) xs) y ≡ pos 0)
      go true e r = inl (subst P ((edges.same_edge_is E L _ _).0 e) h.0)
      go false e (inl p) = inl p
      go false e (inr z) = inr (ap (◌+ℤ◌ (pos 0)) z)

  pub suffices : (c c' : Chain E) → AllByRecursion (λ x. net E B c (canonical E B x).what ≡ net E B c' (canonical E B x).what) (c ++ c') → SameNet E B c c'
  suffices c c' h y = go (met agree c y (all_front _ c c' h)) (met agree c' y (all_back (λ x. agree (canonical E B x).what) c c' h))
    where
      agree : Edge E → Type 0
      agree z = net E B c z ≡ net E B c' z

      go : (net E B c y ≡ net E B c' y) ⊎ (net E B c y ≡ pos 0) → (net E B c y ≡ net E B c' y) ⊎ (net E B c' y ≡ pos 0) → net E B c y ≡ net E B c' y
      go (inl p) r = p
      go (inr p) (inl q) = q
      go (inr p) (inr q) = p ∙ sym q
