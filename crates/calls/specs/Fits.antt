-- Which rows of a list can be read: a list that only a sheet's calls have filled has no others.
use Rattle.std.specs.Prelude.{◌≡◌, ℕ, ◌<◌, ◌≤◌, List, ◌++◌, ◌∷◌, length, take, Some, None, Option, Ok, Err, Result}
use Rattle.std.specs.List.{AllByRecursion}
use Rattle.exact.specs.Cyclotomic.{Cyclotomic}
use Rattle.exact.specs.JobNumbers.{JobNumbers}
use Rattle.chains.specs.Books.{Placement}
use Rattle.rings.specs.Plane.{OnPlane}
use Rattle.jobs.specs.Limits.{most_depth}
use Rattle.calls.specs.Records.{Record}
use Rattle.calls.specs.declared.fault.ListFault.{ListFault}
use Rattle.calls.specs.declared.fault.ListFault.TheVariants.{Short, BeyondLimits, Ring}

module _ (E : Cyclotomic) (N : JobNumbers) where
  -- a piece of one of the book's tiles
  abbrev pub NamesTile : Option (Placement E) → Type 0
  NamesTile None = Unit {0}
  NamesTile (Some p) = p.tile < length N.tiles

  -- a piece on the plane
  abbrev pub PieceOnPlane : Option (Placement E) → Type 0
  PieceOnPlane None = Unit {0}
  PieceOnPlane (Some p) = OnPlane E p.place

  -- a record within the limits: its descents, its tile. A turn has no limit: turns count modulo n.
  abbrev pub WithinLimits : Record E → Type 0
  WithinLimits r = (r.descents ≤ most_depth) × NamesTile r.laid

  abbrev pub Fits : Record E → Type 0
  Fits r = WithinLimits r × PieceOnPlane r.laid

  -- a record's fault: 3 where it is not within the limits; where it is, 8 where it is off the plane
  abbrev pub Unfit : Record E → ListFault → Type 0
  Unfit r (Short f) = ⊥
  Unfit r BeyondLimits = WithinLimits r → ⊥
  Unfit r (Ring f) = WithinLimits r × (PieceOnPlane r.laid → ⊥)

  -- the same of the piece alone
  abbrev pub PieceUnfit : Option (Placement E) → ListFault → Type 0
  PieceUnfit p (Short f) = ⊥
  PieceUnfit p BeyondLimits = NamesTile p → ⊥
  PieceUnfit p (Ring f) = NamesTile p × (PieceOnPlane p → ⊥)

  -- the first record that does not fit has that fault
  pub record FirstUnfit (rs : List (Record E)) (f : ListFault) : Type 0 where
    pub before : List (Record E)
    pub first : Record E
    pub after : List (Record E)
    pub whole : rs ≡ before ++ (first ∷ after)
    pub fit : AllByRecursion Fits before
    pub unfit : Unfit first f

  -- what a list of so many rows is refused with, where a sheet has so many records: 15 if it is shorter, else the first record's fault
  abbrev pub ListUnfit : ℕ → ℕ → List (Record E) → ListFault → Type 0
  ListUnfit room count rs (Short f) = room < count
  ListUnfit room count rs BeyondLimits = (count ≤ room) × FirstUnfit rs BeyondLimits
  ListUnfit room count rs (Ring f) = (count ≤ room) × FirstUnfit rs (Ring f)
