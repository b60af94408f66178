-- What is saved of a caller's list, and when it is not saved.
use Rattle.std.specs.Prelude.{◌≡◌, ℕ, ◌<◌, ◌≤◌, ◌⊎◌, List, length, Option, ℤ}
use Rattle.std.specs.List.{AllByRecursion}
use Rattle.exact.specs.Cyclotomic.{Cyclotomic}
use Rattle.exact.specs.JobNumbers.{JobNumbers}
use Rattle.calls.specs.Limits.{most_pieces}
use Rattle.calls.specs.Records.{Record}
use Rattle.calls.specs.Sheets.{Sheet}
use Rattle.calls.specs.Fits.{Fits, ListUnfit}
use Rattle.calls.specs.declared.fault.ListFault.{ListFault}
use Rattle.calls.specs.declared.fault.ListFault.TheVariants.{BeyondLimits}
use Rattle.files.specs.Files.{saved}
use Rattle.saves.specs.declared.fault.SaveFault.{SaveFault}
use Rattle.saves.specs.declared.fault.SaveFault.TheVariants.{List as OfList, Buffer}

module _ (E : Cyclotomic) where
  module _ (N : JobNumbers) where
    -- a list that is not saved has more records than a list may hold, or else its rows cannot be read
    abbrev pub NotReadable : ℕ → ℕ → List (Record E) → ListFault → Type 0
    NotReadable places count rs f = ((most_pieces < count) × (f ≡ BeyondLimits)) ⊎ ((count ≤ most_pieces) × ListUnfit E N places count rs f)

    -- why a sheet is not saved from a list of so many places into a buffer of so many bytes: its list, or else the buffer
    abbrev pub Unsaved : ℕ → ℕ → ℕ → Sheet E → SaveFault → Type 0
    Unsaved places count room s (OfList f) = NotReadable places count s.records f
    Unsaved places count room s (Buffer f) = (count ≤ most_pieces) × (length s.records ≡ count) × AllByRecursion (Fits E N) s.records × (room < length (saved E N s))
