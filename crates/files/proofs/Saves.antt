-- Which files are saves.
use Rattle.std.proofs.Common.{◌≡◌, ℕ, ◌≤◌, ◌↔◌, List, Some, Option, sym, ap, ◌∙◌, subst, le_refl}
use Rattle.exact.specs.Cyclotomic.{Cyclotomic, CyclotomicLaws}
use Rattle.exact.specs.JobNumbers.{JobNumbers}
use Rattle.jobs.specs.Limits.{most_depth}
use Rattle.calls.specs.Limits.{most_pieces}
use Rattle.calls.specs.Sheets.{Sheet, start}
use Rattle.calls.proofs.Moving as moving
use Rattle.files.specs.Files.{saved, spelled, restored}
use Rattle.files.specs.Theorems.{Spelled}
use Rattle.files.proofs.Kept as kept
use Rattle.files.proofs.Kept.{Kept, told}
use Rattle.files.proofs.Files as files

module _ (E : Cyclotomic) (N : JobNumbers) where
  -- what accepted calls lead to keeps what such sheets keep, and what keeps it is where the calls lead that it tells
  pub spelled_kept : N.depth ≤ most_depth → (s : Sheet E) → Spelled E N s → Kept E N most_pieces s
  spelled_kept low s x = kept.kept_replay E N low most_pieces x.0 (start E N) s (moving.is_replayed E N most_pieces x.0 (start E N) s x.1) (kept.kept_start E N most_pieces)

  pub kept_spelled : (s : Sheet E) → Kept E N most_pieces s → Spelled E N s
  kept_spelled s k = (told s, moving.replays E N most_pieces (told s) (start E N) s k.way)

module _ (E : Cyclotomic) (L : CyclotomicLaws E) (N : JobNumbers) (low : N.depth ≤ most_depth) where
  writes_back : (s : Sheet E) → Spelled E N s → restored E N (saved E N s) ≡ Some s
  writes_back s x = files.restores E L N most_pieces s (le_refl most_pieces) (spelled_kept E N low s x)

  pub files_are_saves : (file : List ℕ) (t : Sheet E) → (restored E N file ≡ Some t) ↔ (Spelled E N t × (saved E N t ≡ file))
  files_are_saves file t = (there, λ x. subst (λ f. restored E N f ≡ Some t) x.1 (writes_back t x.0))
    where
      there : restored E N file ≡ Some t → Spelled E N t × (saved E N t ≡ file)
      there e = let x = files.is_restored E N file t e in ((spelled E N file, moving.replays E N most_pieces (spelled E N file) (start E N) t x.0), x.1)

  pub one_file_one_sheet : (s t : Sheet E) → Spelled E N s → Spelled E N t → saved E N s ≡ saved E N t → s ≡ t
  one_file_one_sheet s t x y e = same (sym (writes_back s x) ∙ ap (restored E N) e ∙ writes_back t y)
    where
      same : ◌≡◌ {A = Option (Sheet E)} (Some s) (Some t) → s ≡ t
      same f = cc
