-- What the code's cursors and lists stand for.
use Rattle.std.specs.Prelude.{ℕ, List, ℤ, Some, None, Option}
use Rattle.exact.specs.Cyclotomic.{Cyclotomic}
use Rattle.nodes.specs.Views.{address_view}
use Rattle.calls.specs.Records.{records}
use Rattle.calls.specs.Sheets as sheets
use Rattle.calls.specs.declared.row.Row.{Row}
use Rattle.calls.specs.declared.cursor.Cursor.{Cursor}

abbrev pub cursor_view : Cursor → sheets.Cursor
cursor_view c = record { node = address_view c.node; descents = c.descents }

abbrev pub cursor_at : Option Cursor → Option sheets.Cursor
cursor_at None = None
cursor_at (Some c) = Some (cursor_view c)

-- the sheet that a cursor, a count and a caller's list stand for
abbrev pub sheet_of : (E : Cyclotomic) {C : Type 0} → (C → List ℤ) → Option Cursor → ℕ → List (Row C) → sheets.Sheet E
sheet_of E listed cursor count rows = record { cursor = cursor_at cursor; records = records E listed count rows }
