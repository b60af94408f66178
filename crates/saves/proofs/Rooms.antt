-- A file that is resumed from, and the room that it needs.
use Rattle.std.proofs.Common.{◌≡◌, ℕ, ◌<◌, ◌≤◌, if◌then◌else◌, List, length, drop, ℤ, Some, None, Option, Ok, Err, Result, sym, ap, ◌∙◌, arith, le-leb}
use Rattle.std.proofs.lemmas.Bool.{lt-leb}
use Rattle.std.proofs.lemmas.List.{take_all}
use Rattle.exact.specs.Cyclotomic.{Cyclotomic}
use Rattle.exact.specs.JobNumbers.{JobNumbers}
use Rattle.calls.specs.Limits.{usable}
use Rattle.calls.specs.Records.{Record, records}
use Rattle.calls.specs.Sheets.{Sheet, no_room}
use Rattle.calls.specs.Views.{sheet_of, cursor_at}
use Rattle.calls.specs.declared.cursor.Cursor.{Cursor}
use Rattle.calls.specs.declared.row.Row.{Row}
use Rattle.files.specs.Files.{restored}
use Rattle.files.specs.Judging.{judged}
use Rattle.files.specs.Calls.{about_nodes, no_save, offset_in, if_restored, resume}
use Rattle.saves.specs.Filled.{Filled}
use Rattle.saves.specs.Records.{sheet_with}

module _ (E : Cyclotomic) (N : JobNumbers) (places : ℕ) (file : List ℕ) where
  pub no_file : (o : ℕ) → judged E N file ≡ Err o → restored E N file ≡ None → resume E N places file ≡ Err (no_save o)
  unfolding resume
  no_file o e f = ap (if_restored E N places file) f ∙ ap (λ r. Err (no_save (offset_in E N r))) e

  module _ (t : Sheet E) (f : restored E N file ≡ Some t) where
    pub too_many : places < length t.records → resume E N places file ≡ Err (about_nodes no_room)
    unfolding resume
    too_many h = ap (if_restored E N places file) f ∙ ap (λ b. if b then Ok t else Err (about_nodes no_room)) (lt-leb _ _ h)

    pub enough : length t.records ≤ places → resume E N places file ≡ Ok t
    unfolding resume
    enough h = ap (if_restored E N places file) f ∙ ap (λ b. if b then Ok t else Err (about_nodes no_room)) (le-leb _ _ h)

-- a list that is filled with all records of a sheet
module _ (E : Cyclotomic) {C : Type 0} (listed : C → List ℤ) (rs : List (Record E)) (old new : List (Row C)) (count : ℕ) (many : count ≡ length rs) (room : count ≤ usable (length old)) (h : Filled E listed rs old new) where
  pub all_records : records E listed count new ≡ rs
  all_records = ap (λ k. records E listed k new) many ∙ h.0 ∙ take_all (length old) rs (omega arith)

  pub filled_sheet : (cursor : Option Cursor) → sheet_of E listed cursor count new ≡ sheet_with E cursor rs
  filled_sheet cursor = ap (λ xs. record { cursor = cursor_at cursor; records = xs }) all_records

  pub behind : drop count new ≡ drop count old
  behind = ap (λ k. drop k new) many ∙ h.1 ∙ ap (λ k. drop k old) (sym many)

pub same_sheet : {E : Cyclotomic} (r : Result (Sheet E) ℕ) (s t : Sheet E) → r ≡ Ok s → r ≡ Ok t → s ≡ t
same_sheet r s t e f = cc
