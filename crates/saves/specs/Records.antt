-- A record of a file, read at a cursor.
use Rattle.std.specs.Prelude.{ℕ, suc, zero, ◌+◌, Bool, true, false, if◌then◌else◌, List, Some, None, Option, ◌==◌, nat_lt}
use Rattle.std.specs.Option.{option_map}
use Rattle.exact.specs.Cyclotomic.{Cyclotomic}
use Rattle.exact.specs.JobNumbers.{JobNumbers}
use Rattle.chains.specs.Books.{Placement}
use Rattle.chains.specs.Addresses.{level, child_address}
use Rattle.nodes.specs.Table.{Entry, there, missing, outside, table}
use Rattle.calls.specs.Records.{Record}
use Rattle.calls.specs.Sheets.{Cursor, Sheet}
use Rattle.calls.specs.Views.{cursor_at}
use Rattle.calls.specs.declared.cursor.Cursor as code

-- the cursor at its node's first child
abbrev pub below : Cursor → Cursor
below c = record { node = child_address c.node 0; descents = c.descents + 1 }

-- so many descents from a cursor; none where one of them would go below the depth
unfoldable pub deeper : ℕ → ℕ → Cursor → Option Cursor
deeper depth zero c = Some c
deeper depth (suc n) c = if nat_lt (level c.node) depth then deeper depth n (below c) else None

module _ (E : Cyclotomic) (N : JobNumbers) where
  abbrev pub laid_in : Entry E → Option (Placement E)
  laid_in (there p) = Some p
  laid_in missing = None
  laid_in outside = None

  -- the piece that is laid at a cursor: where its node lies, if it is at the depth and on the plane
  unfoldable pub piece_at : Cursor → Option (Placement E)
  piece_at c = if level c.node == N.depth then laid_in (table E N c.node) else None

  abbrev pub record_with : Cursor → Option (Placement E) → Record E
  record_with c laid = record { descents = c.descents; laid = laid }

  -- the record that is closed at a cursor: its node set aside, or its piece laid
  abbrev pub closed_at : Cursor → Bool → Option (Record E)
  closed_at c true = Some (record_with c None)
  closed_at c false = option_map (λ p. record_with c (Some p)) (piece_at c)

-- the sheet of a cursor of the code and some records
abbrev pub sheet_with : (E : Cyclotomic) → Option code.Cursor → List (Record E) → Sheet E
sheet_with E cursor rs = record { cursor = cursor_at cursor; records = rs }
