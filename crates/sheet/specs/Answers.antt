-- What a sheet's calls answer and leave.
use Rattle.std.specs.Prelude.{◌≡◌, ℕ, ◌+◌, List, ℤ, Some, None, Option, Ok, Err, Result, MatchResult, slice_set}
use Rattle.exact.specs.Cyclotomic.{Cyclotomic}
use Rattle.exact.specs.JobNumbers.{JobNumbers}
use Rattle.job_rows.specs.declared.Placed.{Placed}
use Rattle.edges.specs.Views.{placement_view}
use Rattle.rings.specs.declared.fault.RingFault.TheVariants.{OffPlane}
use Rattle.nodes.specs.Table.{Entry, there, table}
use Rattle.nodes.specs.declared.fault.PlaceFault.TheVariants.{NoNode, Ring}
use Rattle.calls.specs.Records.{Record}
use Rattle.calls.specs.Sheets as sheets
use Rattle.calls.specs.Sheets.{Sheet, Why, nothing_pending, wrong_level, no_room, no_node, off_plane, lay_by, AtNode}
use Rattle.calls.specs.declared.row.Row.{Row}
use Rattle.sheet.specs.declared.fault.SheetFault.{SheetFault}
use Rattle.sheet.specs.declared.fault.SheetFault.TheVariants.{NoRoom, WrongLevel, NothingPending, Place}

-- the fault that tells why a call refuses
abbrev pub fault : {S : Type 0} → Why → SheetFault S
fault nothing_pending = NothingPending
fault wrong_level = WrongLevel
fault no_room = NoRoom
fault no_node = Place NoNode
fault off_plane = Place (Ring OffPlane)

-- a call leads where it should, with a fitting answer; or it is refused for the reason that it should be, and leaves the sheet as it was
abbrev pub Does : {A S : Type 0} (E : Cyclotomic) → Result (Sheet E) Why → (A → Type 0) → Result A (SheetFault S) → Sheet E → Sheet E → Type 0
Does E (Ok t) Fits (Ok a) old new = (new ≡ t) × Fits a
Does E (Ok t) Fits (Err f) old new = ⊥
Does E (Err w) Fits (Ok a) old new = ⊥
Does E (Err w) Fits (Err f) old new = (f ≡ fault w) × (new ≡ old)

-- an accepted call writes the first free place of the list, and no other, and counts it; a refused one writes and counts nothing
abbrev pub WritesOne : {A F C : Type 0} → Result A F → ℕ → ℕ → List (Row C) → List (Row C) → Type 0
WritesOne (Ok a) count count' old new = (count' ≡ count + 1) × ((r : Row _) × (new ≡ slice_set old count r))
WritesOne (Err f) count count' old new = (count' ≡ count) × (new ≡ old)

module _ {S : Type 0} (E : Cyclotomic) (value : S → E.Elem) (N : JobNumbers) where
  -- the answer is the placement that the table has for the cursor's node
  abbrev pub Answers : Entry E → Placed S → Type 0
  Answers e p = e ≡ there (placement_view E value p)

  -- where the cursor is at a node, its entry of the table
  abbrev pub entry_at : Option sheets.Cursor → Entry E → Type 0
  entry_at None e = Unit {0}
  entry_at (Some c) e = e ≡ table E N c.node

  -- lay, by what the placer answers: the table's entry for the cursor's node, if the placer is sound
  abbrev pub Lays : Type 0 → ℕ → Result (Placed S) (SheetFault S) → Sheet E → Sheet E → Type 0
  Lays Sound places result old new = (e : Entry E) × (Sound → entry_at old.cursor e) × Does E (lay_by E N places (λ a. e) old) (Answers e) result old new
