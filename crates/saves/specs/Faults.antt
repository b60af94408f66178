-- What each fault of saving and of files refuses with.
use Rattle.std.specs.Prelude.{◌≡◌, ℕ, Some}
use Rattle.refusals.specs.Refusal.{Refusal}
use Rattle.refusals.specs.declared.Layer.TheVariants as layers
use Rattle.faults.specs.Told.{buffer_refusal}
use Rattle.calls.specs.Faults.{list_refusal}
use Rattle.calls.specs.Sheets.{no_room}
use Rattle.files.specs.Calls.{Reason, no_save, about_nodes}
use Rattle.saves.specs.declared.fault.FileFault.{FileFault}
use Rattle.saves.specs.declared.fault.FileFault.TheVariants.{NotASave}
use Rattle.saves.specs.declared.fault.SaveFault.{SaveFault}
use Rattle.saves.specs.declared.fault.SaveFault.TheVariants.{List, Buffer}
use Rattle.saves.specs.declared.fault.ResumeFault.{ResumeFault}
use Rattle.saves.specs.declared.fault.ResumeFault.TheVariants.{File, NoRoom}

-- no lawful save: 12, with the offset from which on no save goes on so
abbrev pub file_refusal : FileFault → Refusal
file_refusal (NotASave offset) = record { number = Some 12; Places = λ p. p ≡ offset; layer = layers.File }

-- the list's refusal and the buffer's are passed on whole
abbrev pub save_refusal : SaveFault → Refusal
save_refusal (List f) = list_refusal f
save_refusal (Buffer f) = buffer_refusal f

-- the file's refusal is passed on whole; too few places: 9, place 0, a refusal of the sheet
abbrev pub resume_refusal : ResumeFault → Refusal
resume_refusal (File f) = file_refusal f
resume_refusal NoRoom = record { number = Some 9; Places = λ p. p ≡ 0; layer = layers.Sheet }

-- the offset that a file's fault tells
abbrev pub offset_of : FileFault → ℕ
offset_of (NotASave offset) = offset

-- why a call refuses, by the fault that tells of it
abbrev pub reason_of : ResumeFault → Reason
reason_of (File f) = no_save (offset_of f)
reason_of NoRoom = about_nodes no_room
