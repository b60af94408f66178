-- Why a sheet is not saved, and why it is not resumed.
use Rattle.std.specs.Prelude.{◌≡◌, ℕ, ◌<◌, List, length, Err}
use Rattle.std.specs.List.{AllByRecursion}
use Rattle.exact.specs.Cyclotomic.{Cyclotomic}
use Rattle.exact.specs.JobNumbers.{JobNumbers}
use Rattle.calls.specs.Fits.{Fits, ListUnfit}
use Rattle.calls.specs.Sheets.{Sheet, no_room}
use Rattle.files.specs.Calls.{resume, no_save, about_nodes}
use Rattle.files.specs.Files.{saved}
use Rattle.saves.specs.declared.fault.FileFault.TheVariants.{NotASave}
use Rattle.sheet.specs.declared.fault.SheetFault.{SheetFault}
use Rattle.sheet.specs.declared.fault.SheetFault.TheVariants as sheets

module _ (E : Cyclotomic) (N : JobNumbers) where
  -- a list of so many places cannot be read where the sheet has so many records; or it can, and the file has no room in so many bytes
  abbrev pub NotSaved : {S : Type 0} → ℕ → ℕ → ℕ → Sheet E → SheetFault S → Type 0
  NotSaved places count room s (sheets.List f) = ListUnfit E N places count s.records f
  NotSaved places count room s (sheets.Buffer f) = (length s.records ≡ count) × AllByRecursion (Fits E N) s.records × (room < length (saved E N s))
  NotSaved places count room s (sheets.File f) = ⊥
  NotSaved places count room s sheets.NoRoom = ⊥
  NotSaved places count room s sheets.WrongLevel = ⊥
  NotSaved places count room s sheets.NothingPending = ⊥
  NotSaved places count room s sheets.StillPending = ⊥
  NotSaved places count room s (sheets.Check f) = ⊥
  NotSaved places count room s (sheets.Place f) = ⊥

  -- the file is no lawful save, from an offset on; or it is one, and has more records than so many places
  abbrev pub NotResumed : {S : Type 0} → ℕ → List ℕ → SheetFault S → Type 0
  NotResumed places file (sheets.File (NotASave offset)) = resume E N places file ≡ Err (no_save offset)
  NotResumed places file sheets.NoRoom = resume E N places file ≡ Err (about_nodes no_room)
  NotResumed places file sheets.WrongLevel = ⊥
  NotResumed places file sheets.NothingPending = ⊥
  NotResumed places file sheets.StillPending = ⊥
  NotResumed places file (sheets.Check f) = ⊥
  NotResumed places file (sheets.Place f) = ⊥
  NotResumed places file (sheets.List f) = ⊥
  NotResumed places file (sheets.Buffer f) = ⊥
