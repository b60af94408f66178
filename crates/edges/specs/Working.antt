-- The values that the formulas make on their way, and that all of them are on the plane.
use Rattle.std.specs.Prelude.{◌≡◌, ℕ, ◌%◌, Bool, false, cond, ◌||◌, List, [], ◌∷◌, nat_lt}
use Rattle.std.specs.List.{AllByRecursion}
use Rattle.exact.specs.Cyclotomic.{Cyclotomic, power, half}
use Rattle.exact.specs.JobNumbers.{Step}
use Rattle.rings.specs.Plane.{OnPlane}
use Rattle.chains.specs.Books.{Book, Placement, label_at, tile_at}
use Rattle.chains.specs.Edges.{Edge, Chain, along}
use Rattle.chains.specs.Inflation.{stepped}
use Rattle.chains.specs.Placements.{image, outline}

-- a point mirrored or not, then turned, then moved to the place
abbrev pub KeptImage : (E : Cyclotomic) → Placement E → E.Elem → Type 0
KeptImage E p z = OnPlane E (cond p.mirrored (E.conj z) z)
    × OnPlane E (E.mul (power E p.turn) (cond p.mirrored (E.conj z) z))
    × OnPlane E (image E p z)

-- the start of each edge of a chain, brought there by a placement
abbrev pub KeptPlaced : (E : Cyclotomic) → Placement E → Chain E → Type 0
KeptPlaced E p c = AllByRecursion (λ x. KeptImage E p x.what.start) c

module _ (E : Cyclotomic) (B : Book E) where
  -- label e turned into direction j, then added to q
  abbrev pub KeptAlong : ℕ → ℕ → E.Elem → Type 0
  KeptAlong e j q = OnPlane E (E.mul (power E j) (label_at B e).length) × OnPlane E (along E B e j q)

  -- an edge is written as it stands where it is arrowed, or of a direction below n/2
  abbrev pub as_it_stands : Edge E → Bool
  as_it_stands x = (label_at B x.label).arrowed || nat_lt (x.direction % E.n) (half E)

  -- the end of an edge that is written from there
  abbrev pub KeptCanonical : Edge E → Type 0
  KeptCanonical x = as_it_stands x ≡ false → KeptAlong x.label x.direction x.start

  abbrev pub KeptForms : Chain E → Type 0
  KeptForms c = AllByRecursion (λ x. KeptCanonical x.what) c

  -- steps one after another
  unfoldable pub KeptWalk : List Step → E.Elem → Type 0
  KeptWalk [] q = Unit {0}
  KeptWalk (s ∷ ss) q = KeptAlong s.label s.direction q × KeptWalk ss (along E B s.label s.direction q)

  unfoldable pub KeptOutline : ℕ → Type 0
  KeptOutline t = KeptWalk (tile_at B t).outline E.zero

  -- an outline, and then all its edges placed
  unfoldable pub KeptPlacedOutline : Placement E → Type 0
  KeptPlacedOutline p = KeptOutline p.tile × KeptPlaced E p (outline E B p.tile)

  -- an edge's start multiplied by the factor, and then the steps of the subdivision from there
  unfoldable pub KeptSubdivided : Edge E → Type 0
  KeptSubdivided x = OnPlane E (E.mul B.factor x.start)
      × KeptWalk (stepped x.direction (label_at B x.label).subdivision) (E.mul B.factor x.start)

  abbrev pub KeptInflated : Chain E → Type 0
  KeptInflated c = AllByRecursion (λ x. KeptSubdivided x.what) c
