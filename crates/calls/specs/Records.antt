-- The records of a piece list, and what a list's rows stand for.
use Rattle.std.specs.Prelude.{ℕ, Some, None, Option, List, [], ◌∷◌, map, take, ℤ}
use Rattle.exact.specs.Cyclotomic.{Cyclotomic}
use Rattle.chains.specs.Books.{Placement}
use Rattle.job_rows.specs.declared.Placed.{Placed}
use Rattle.calls.specs.declared.row.Row.{Row}

-- a record: the descents since the start or the record before it and, for a laid piece, where it lies; none for a node set aside
pub record Record (E : Cyclotomic) : Type 0 where
  pub descents : ℕ
  pub laid : Option (Placement E)

-- the laid pieces that records hold
abbrev pub with_laid : {E : Cyclotomic} → Option (Placement E) → List (Placement E) → List (Placement E)
with_laid None ps = ps
with_laid (Some p) ps = p ∷ ps

unfoldable pub laid_pieces : {E : Cyclotomic} → List (Record E) → List (Placement E)
laid_pieces [] = []
laid_pieces (r ∷ rs) = with_laid r.laid (laid_pieces rs)

module _ (E : Cyclotomic) {C : Type 0} (listed : C → List ℤ) where
  -- a laid piece's row, its coefficients read as an element
  abbrev pub piece_view : Placed C → Placement E
  piece_view p = record { tile = p.tile; turn = p.turn; mirrored = p.mirrored; place = E.of (listed p.place) }

  abbrev pub laid_view : Option (Placed C) → Option (Placement E)
  laid_view None = None
  laid_view (Some p) = Some (piece_view p)

  abbrev pub row_view : Row C → Record E
  row_view r = record { descents = r.descents; laid = laid_view r.laid }

  -- the records that the first rows of a list stand for
  abbrev pub records : ℕ → List (Row C) → List (Record E)
  records count rows = map row_view (take count rows)
