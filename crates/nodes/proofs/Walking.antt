-- Corners one after another.
use Rattle.std.proofs.Common.{◌≡◌, ℕ, ◌+◌, ◌<◌, ◌≤◌, true, ◌&&◌, List, map, length, get_or, drop}
use Rattle.std.proofs.lemmas.List.{at_drop_more, at_drop_all}
use Rattle.exact.specs.Cyclotomic.{Cyclotomic}
use Rattle.chains.specs.Books.{Book, Placement}
use Rattle.chains.specs.Edges.{along}
use Rattle.job_rows.specs.declared.Step.{Step}
use Rattle.job_rows.specs.Shapes.{step_of}
use Rattle.nodes.specs.OnPlane.{kept_along, kept_image, kept_corners_from}

module _ (E : Cyclotomic) (B : Book E) (p : Placement E) (steps : List Step) (i : ℕ) where
  pub corners_more : (d : Step) (q : E.Elem) → i < length steps →
      kept_corners_from E B p (map step_of (drop i steps)) q
      ≡ (kept_along E B (get_or steps i d).label (get_or steps i d).direction q && kept_image E p (along E B (get_or steps i d).label (get_or steps i d).direction q)
      && kept_corners_from E B p (map step_of (drop (i + 1) steps)) (along E B (get_or steps i d).label (get_or steps i d).direction q))
  unfolding kept_corners_from
  corners_more d q h = at_drop_more (λ l. kept_corners_from E B p (map step_of l) q) steps i d h

  pub corners_none : (q : E.Elem) → length steps ≤ i → kept_corners_from E B p (map step_of (drop i steps)) q ≡ true
  unfolding kept_corners_from
  corners_none q h = at_drop_all (λ l. kept_corners_from E B p (map step_of l) q) steps i h
