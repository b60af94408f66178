-- Where two chains of edges in canonical form differ.
use Rattle.std.specs.Prelude.{◌≡◌, ℕ, ◌∷◌, ◌++◌, map, ℤ, pos, ◌-ℤ◌}
use Rattle.std.specs.List.{AllByRecursion}
use Rattle.exact.specs.Cyclotomic.{Cyclotomic}
use Rattle.chains.specs.Counts.{Counted, tally}
use Rattle.chains.specs.Books.{Book, tile_at}
use Rattle.chains.specs.Edges.{Edge, Chain, same_edge, canonical}
use Rattle.chains.specs.Inflation.{inflate}
use Rattle.chains.specs.Placements.{outline, outlines}

module _ (E : Cyclotomic) (xs ys : Chain E) where
  -- how much more xs counts an edge than ys
  unfoldable pub gap : Edge E → ℤ
  gap y = tally (same_edge E) xs y -ℤ tally (same_edge E) ys y

  abbrev pub SameAt : Counted (Edge E) → Type 0
  SameAt x = gap x.what ≡ pos 0

  -- they agree at every edge that occurs in one of them
  abbrev pub Agree : Type 0
  Agree = AllByRecursion SameAt (xs ++ ys)

  -- e is the first edge, of xs and then of ys, at which they differ, and d is the count in xs less that in ys
  pub record FirstDifference (e : Edge E) (d : ℤ) : Type 0 where
    pub before : Chain E
    pub count : ℤ
    pub after : Chain E
    pub found : xs ++ ys ≡ before ++ record { what = e; count = count } ∷ after
    pub earlier : AllByRecursion SameAt before
    pub amount : d ≡ gap e
    pub differs : d ≡ pos 0 → ⊥

-- e is the first edge, of tile t's children in order and then of its inflated outline, at which the two differ, in canonical form;
-- d is the children's count less the outline's
abbrev pub UnbalancedAt : (E : Cyclotomic) → Book E → ℕ → Edge E → ℤ → Type 0
UnbalancedAt E B t e d = FirstDifference E (map (canonical E B) (outlines E B (tile_at B t).children)) (map (canonical E B) (inflate E B (outline E B t))) e d
