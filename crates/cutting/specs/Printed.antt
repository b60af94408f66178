-- What printing answers and leaves.
use Rattle.std.specs.Prelude.{◌≡◌, ℕ, ◌<◌, ◌≤◌, List, ◌++◌, length, drop, Ok, Err, Result}
use Rattle.std.specs.List.{AllByRecursion}
use Rattle.exact.specs.Cyclotomic.{Cyclotomic}
use Rattle.exact.specs.JobNumbers.{JobNumbers}
use Rattle.calls.specs.Records.{Record}
use Rattle.calls.specs.Fits.{Fits, ListUnfit}
use Rattle.sheet.specs.declared.fault.SheetFault.{SheetFault}
use Rattle.sheet.specs.declared.fault.SheetFault.TheVariants.{NoRoom, WrongLevel, NothingPending, StillPending, Check, Place, List as Listed, File, Buffer}
use Rattle.cutting.specs.Lines.{cutting_list}

module _ (E : Cyclotomic) (N : JobNumbers) (room count : ℕ) (rs : List (Record E)) where
  -- the list of the records stands in front of the buffer, and what was behind it stays; refused, the buffer stays as it was:
  -- first where the caller's list cannot be read, then where the buffer is too short
  abbrev pub Prints : {S : Type 0} → List ℕ → List ℕ → Result ℕ (SheetFault S) → Type 0
  Prints old new (Ok n) = (n ≡ length (cutting_list E rs)) × (n ≤ length old) × (new ≡ cutting_list E rs ++ drop n old) × AllByRecursion (Fits E N) rs × (length rs ≡ count)
  Prints old new (Err (Listed f)) = ListUnfit E N room count rs f × (new ≡ old)
  Prints old new (Err (Buffer f)) = AllByRecursion (Fits E N) rs × (length rs ≡ count) × (length old < length (cutting_list E rs)) × (new ≡ old)
  Prints old new (Err NoRoom) = ⊥
  Prints old new (Err WrongLevel) = ⊥
  Prints old new (Err NothingPending) = ⊥
  Prints old new (Err StillPending) = ⊥
  Prints old new (Err (Check f)) = ⊥
  Prints old new (Err (Place f)) = ⊥
  Prints old new (Err (File f)) = ⊥
