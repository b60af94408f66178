-- What saving and resuming make of a sheet, and when they refuse.
use Rattle.std.specs.Prelude.{ℕ, if◌then◌else◌, List, length, Some, None, Option, Ok, Err, Result, nat_le}
use Rattle.exact.specs.Cyclotomic.{Cyclotomic}
use Rattle.exact.specs.JobNumbers.{JobNumbers}
use Rattle.calls.specs.Sheets.{Sheet, Why, no_room}
use Rattle.files.specs.Files.{saved, restored}
use Rattle.files.specs.Judging.{judged}

-- why any call refuses: as a call about the nodes does; 12, from an offset on; 15
pub data Reason : Type 0 where
  about_nodes : Why → Reason
  no_save : ℕ → Reason
  too_short : Reason

module _ (E : Cyclotomic) (N : JobNumbers) where
  -- save, into a buffer of so many bytes, leaves the sheet as it is
  unfoldable pub save : ℕ → Sheet E → Result (Sheet E) Reason
  save room s = if nat_le (length (saved E N s)) room then Ok s else Err too_short

  -- where a file is bad, if it is
  abbrev pub offset_in : Result (Sheet E) ℕ → ℕ
  offset_in (Err offset) = offset
  offset_in (Ok t) = 0

  -- resume, where so many places may be used: a file that is no lawful save is refused where it is bad, and then one with more records
  -- than there is room for
  abbrev pub if_restored : ℕ → List ℕ → Option (Sheet E) → Result (Sheet E) Reason
  if_restored places file None = Err (no_save (offset_in (judged E N file)))
  if_restored places file (Some t) = if nat_le (length t.records) places then Ok t else Err (about_nodes no_room)

  unfoldable pub resume : ℕ → List ℕ → Result (Sheet E) Reason
  resume places file = if_restored places file (restored E N file)
