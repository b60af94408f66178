-- What each fault of a sheet refuses with.
use Rattle.std.specs.Prelude.{◌≡◌, ℕ, Some}
use Rattle.refusals.specs.Refusal.{Refusal}
use Rattle.refusals.specs.declared.Layer.TheVariants as layers
use Rattle.faults.specs.Told.{buffer_refusal}
use Rattle.job_check.specs.Faults.{check_refusal}
use Rattle.nodes.specs.Faults.{place_refusal}
use Rattle.calls.specs.Faults.{list_refusal}
use Rattle.saves.specs.Faults.{file_refusal}
use Rattle.saves.specs.declared.fault.SaveFault.{SaveFault}
use Rattle.saves.specs.declared.fault.SaveFault.TheVariants as saves
use Rattle.saves.specs.declared.fault.ResumeFault.{ResumeFault}
use Rattle.saves.specs.declared.fault.ResumeFault.TheVariants as resumes
use Rattle.sheet.specs.declared.fault.SheetFault.{SheetFault}
use Rattle.sheet.specs.declared.fault.SheetFault.TheVariants.{NoRoom, WrongLevel, NothingPending, StillPending, Check, Place, List, File, Buffer}

-- a refusal of the sheet's own, which has no place
abbrev pub of_sheet : ℕ → Refusal
of_sheet n = record { number = Some n; Places = λ p. p ≡ 0; layer = layers.Sheet }

-- 9, 10, 11 and 14 are the sheet's own; the others are passed on whole
abbrev pub sheet_refusal : {S : Type 0} → SheetFault S → Refusal
sheet_refusal NoRoom = of_sheet 9
sheet_refusal WrongLevel = of_sheet 10
sheet_refusal NothingPending = of_sheet 11
sheet_refusal StillPending = of_sheet 14
sheet_refusal (Check f) = check_refusal f
sheet_refusal (Place f) = place_refusal f
sheet_refusal (List f) = list_refusal f
sheet_refusal (File f) = file_refusal f
sheet_refusal (Buffer f) = buffer_refusal f

-- the faults of saving and resuming, in the sheet's own: those of the list, the buffer and the file whole
abbrev pub save_fault : {S : Type 0} → SaveFault → SheetFault S
save_fault (saves.List f) = List f
save_fault (saves.Buffer f) = Buffer f

abbrev pub resume_fault : {S : Type 0} → ResumeFault → SheetFault S
resume_fault (resumes.File f) = File f
resume_fault resumes.NoRoom = NoRoom
