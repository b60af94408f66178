-- A walk one step after another.
use Rattle.std.proofs.Common.{◌≡◌, ℕ, ◌+◌, ◌<◌, ◌≤◌, List, [], ◌∷◌, map, length, get_or, drop, sym, subst}
use Rattle.std.proofs.lemmas.List.{at_drop_more, at_drop_all, drop_more, drop_all}
use Rattle.exact.specs.Cyclotomic.{Cyclotomic}
use Rattle.chains.specs.Books.{Book}
use Rattle.chains.specs.Edges.{walk, corners, along, step_count}
use Rattle.job_rows.specs.declared.Step.{Step}
use Rattle.job_rows.specs.Shapes.{step_of}
use Rattle.edges.specs.Working.{KeptAlong, KeptWalk}

module _ (E : Cyclotomic) (B : Book E) (steps : List Step) (i : ℕ) where
  pub walk_more : (d : Step) (q : E.Elem) → i < length steps →
      walk E B (map step_of (drop i steps)) q
      ≡ step_count E B (step_of (get_or steps i d)) q ∷ walk E B (map step_of (drop (i + 1) steps)) (along E B (get_or steps i d).label (get_or steps i d).direction q)
  unfolding walk
  walk_more d q h = at_drop_more (λ l. walk E B (map step_of l) q) steps i d h

  pub walk_none : (q : E.Elem) → length steps ≤ i → walk E B (map step_of (drop i steps)) q ≡ []
  unfolding walk
  walk_none q h = at_drop_all (λ l. walk E B (map step_of l) q) steps i h

  pub corners_more : (d : Step) (q : E.Elem) → i < length steps →
      corners E B (map step_of (drop i steps)) q
      ≡ along E B (get_or steps i d).label (get_or steps i d).direction q ∷ corners E B (map step_of (drop (i + 1) steps)) (along E B (get_or steps i d).label (get_or steps i d).direction q)
  unfolding corners
  corners_more d q h = at_drop_more (λ l. corners E B (map step_of l) q) steps i d h

  pub corners_none : (q : E.Elem) → length steps ≤ i → corners E B (map step_of (drop i steps)) q ≡ []
  unfolding corners
  corners_none q h = at_drop_all (λ l. corners E B (map step_of l) q) steps i h

  pub kept_more : (d : Step) (q : E.Elem) → i < length steps → KeptWalk E B (map step_of (drop i steps)) q →
      KeptAlong E B (get_or steps i d).label (get_or steps i d).direction q × KeptWalk E B (map step_of (drop (i + 1) steps)) (along E B (get_or steps i d).label (get_or steps i d).direction q)
  unfolding KeptWalk
  kept_more d q h k = subst (λ l. KeptWalk E B (map step_of l) q) (drop_more steps i d h) k

  pub kept_back : (d : Step) (q : E.Elem) → i < length steps →
      KeptAlong E B (get_or steps i d).label (get_or steps i d).direction q → KeptWalk E B (map step_of (drop (i + 1) steps)) (along E B (get_or steps i d).label (get_or steps i d).direction q) →
      KeptWalk E B (map step_of (drop i steps)) q
  unfolding KeptWalk
  kept_back d q h a k = subst (λ l. KeptWalk E B (map step_of l) q) (sym (drop_more steps i d h)) (a, k)

  pub kept_none : (q : E.Elem) → length steps ≤ i → KeptWalk E B (map step_of (drop i steps)) q
  unfolding KeptWalk
  kept_none q h = subst (λ l. KeptWalk E B (map step_of l) q) (sym (drop_all i steps h)) tt
