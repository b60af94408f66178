-- A file that is judged, and the sheet that it restores.
use Rattle.std.proofs.Common.{◌≡◌, ℕ, suc, ◌<◌, ◌≤◌, List, [], ◌∷◌, length, get_or, ℤ, Fits, w8, Some, None, Option, Ok, Err, Result, sym, refl, ◌∙◌, MatchResult}
use Rattle.std.specs.List.{AllByRecursion}
use Rattle.exact.specs.Cyclotomic.{Cyclotomic, CyclotomicLaws}
use Rattle.exact.specs.JobNumbers.{JobNumbers}
use Rattle.jobs.specs.Limits.{most_depth}
use Rattle.calls.specs.Records.{Record}
use Rattle.calls.specs.Sheets.{Sheet}
use Rattle.calls.specs.Views.{cursor_at}
use Rattle.calls.specs.declared.row.Row.{Row}
use Rattle.files.specs.Files.{restored}
use Rattle.files.specs.Judging as judging
use Rattle.files.proofs.Reading as reading
use Rattle.saves.specs.Faults.{offset_of}
use Rattle.saves.specs.Filled.{Filled}
use Rattle.saves.specs.Records.{sheet_with}
use Rattle.saves.specs.declared.fault.FileFault.{FileFault}
use Rattle.saves.specs.declared.judging.Judged.{Judged}

-- the items of a slice of bytes are bytes
pub all_bytes : (xs : List ℕ) → ((i : ℕ) → Fits w8 (get_or xs i 0)) → AllByRecursion (λ b. b < 256) xs
all_bytes [] h = tt
all_bytes (x ∷ xs) h = ((h 0).fits, all_bytes xs (λ i. h (suc i)))

module _ (E : Cyclotomic) (L : CyclotomicLaws E) (N : JobNumbers) (low : N.depth ≤ most_depth) (file : List ℕ) (bytes : (i : ℕ) → Fits w8 (get_or file i 0)) where
  pub lawful : (t : Sheet E) → judging.judged E N file ≡ Ok t → restored E N file ≡ Some t
  lawful t e = (reading.judging E L N low file (all_bytes file bytes) t).0 e

  pub unlawful : (o : ℕ) → judging.judged E N file ≡ Err o → restored E N file ≡ None
  unlawful o e = go (restored E N file) refl
    where
      go : (r : Option (Sheet E)) → restored E N file ≡ r → r ≡ None
      go None f = refl
      go (Some t) f = let g : ◌≡◌ {A = Result (Sheet E) ℕ} (Err o) (Ok t) = sym e ∙ (reading.judging E L N low file (all_bytes file bytes) t).1 f in absurd cc

  -- what a file is judged says whether a sheet is restored, whatever list it is read into
  pub told_whole : {C : Type 0} (listed : C → List ℤ) (old new : List (Row C)) (r : Result Judged FileFault) →
      MatchResult r (λ j. (rs : List (Record E)) × (judging.judged E N file ≡ Ok (sheet_with E j.cursor rs)) × (j.count ≡ length rs) × Filled E listed rs old new) (λ f. judging.judged E N file ≡ Err (offset_of f)) →
      MatchResult r (λ j. (t : Sheet E) × (judging.judged E N file ≡ Ok t) × (restored E N file ≡ Some t) × (cursor_at j.cursor ≡ t.cursor) × (j.count ≡ length t.records)) (λ f. (judging.judged E N file ≡ Err (offset_of f)) × (restored E N file ≡ None))
  told_whole listed old new (Ok j) h = (sheet_with E j.cursor h.0, h.1, lawful _ h.1, refl, h.2)
  told_whole listed old new (Err f) h = (h, unlawful _ h)
