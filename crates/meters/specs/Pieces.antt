-- Which lists can be read by a meter, and which cannot.
use Rattle.std.specs.Prelude.{◌≡◌, ℕ, ◌≤◌, true, ◌⊎◌, List, [], ◌∷◌, Some, None, Option}
use Rattle.std.specs.List.{AllByRecursion}
use Rattle.exact.specs.Cyclotomic.{Cyclotomic}
use Rattle.exact.specs.JobNumbers.{JobNumbers}
use Rattle.chains.specs.Books.{Placement, book_of}
use Rattle.nodes.specs.OnPlane.{kept_corners}
use Rattle.calls.specs.Records.{Record, laid_pieces}
use Rattle.calls.specs.Fits.{Fits, ListUnfit}
use Rattle.calls.specs.declared.fault.ListFault.{ListFault}
use Rattle.calls.specs.declared.fault.ListFault.TheVariants.{Short, BeyondLimits, Ring}

module _ (E : Cyclotomic) (N : JobNumbers) where
  -- nothing that the formulas make for the pieces' own corners is off the plane
  abbrev pub CornersKept : List (Placement E) → Type 0
  CornersKept ps = AllByRecursion (λ p. kept_corners E (book_of E N) p ≡ true) ps

  -- a list of so many rows can be read, where a sheet has so many records: all of them fit, and so do the corners of what they have laid
  pub record Readable (room count : ℕ) (rs : List (Record E)) : Type 0 where
    pub long : count ≤ room
    pub fit : AllByRecursion (Fits E N) rs
    pub kept : CornersKept (laid_pieces rs)

  -- What the reading of a list is refused with: what the list itself is refused with, and 8 where all records fit, but not all corners of
  -- laid pieces stay on the plane.
  abbrev pub Unreadable : ℕ → ℕ → List (Record E) → ListFault → Type 0
  Unreadable room count rs (Short f) = ListUnfit E N room count rs (Short f)
  Unreadable room count rs BeyondLimits = ListUnfit E N room count rs BeyondLimits
  Unreadable room count rs (Ring f) = ListUnfit E N room count rs (Ring f) ⊎ ((count ≤ room) × AllByRecursion (Fits E N) rs × (CornersKept (laid_pieces rs) → ⊥))
