-- What is proved of saved files.
use Rattle.std.specs.Prelude.{◌≡◌, ℕ, ◌+◌, ◌*◌, ◌<◌, ◌≤◌, ◌⊎◌, ◌↔◌, List, [], ◌∷◌, ◌++◌, length, get_or, drop, Some, Ok, Err}
use Rattle.std.specs.List.{AllByRecursion, flat_map}
use Rattle.exact.specs.Cyclotomic.{Cyclotomic}
use Rattle.exact.specs.JobNumbers.{JobNumbers}
use Rattle.jobs.specs.Limits.{most_depth}
use Rattle.calls.specs.Limits.{most_pieces}
use Rattle.calls.specs.Records.{Record}
use Rattle.calls.specs.Sheets.{Sheet, start}
use Rattle.calls.specs.Moves.{Move, replayed}
use Rattle.files.specs.Files.{last_byte, record_bytes, saved, restored}
use Rattle.files.specs.Judging.{judged}

-- Given room, some calls on a new sheet are all accepted and lead to this one.
abbrev pub Spelled : (E : Cyclotomic) → JobNumbers → Sheet E → Type 0
Spelled E N s = (ms : List Move) × (replayed E N most_pieces ms (start E N) ≡ Some s)

-- A file leads to a sheet just where accepted calls lead to that sheet and it writes that file.
abbrev pub FilesAreSaves : Cyclotomic → Type 0
FilesAreSaves E = (N : JobNumbers) → N.depth ≤ most_depth →
    (file : List ℕ) (t : Sheet E) → (restored E N file ≡ Some t) ↔ (Spelled E N t × (saved E N t ≡ file))

-- Two sheets that accepted calls lead to, and that write the same file, are the same.
abbrev pub OneFileOneSheet : Cyclotomic → Type 0
OneFileOneSheet E = (N : JobNumbers) → N.depth ≤ most_depth →
    (s t : Sheet E) → Spelled E N s → Spelled E N t → saved E N s ≡ saved E N t → s ≡ t

-- Bytes read record by record lead to the same sheet as the calls that the whole file spells.
abbrev pub FilesAreJudged : Cyclotomic → Type 0
FilesAreJudged E = (N : JobNumbers) → N.depth ≤ most_depth →
    (file : List ℕ) → AllByRecursion (λ b. b < 256) file → (t : Sheet E) → (judged E N file ≡ Ok t) ↔ (restored E N file ≡ Some t)

-- ---- where a file that is no lawful save goes wrong
-- The header is cut, or it is of another depth or counts more records than a list may hold.
abbrev pub Headless : JobNumbers → List ℕ → Type 0
Headless N [] = Unit {0}
Headless N (d ∷ []) = Unit {0}
Headless N (d ∷ high ∷ []) = Unit {0}
Headless N (d ∷ high ∷ low ∷ bytes) = d ≡ N.depth → high * 256 + low ≤ most_pieces → ⊥

module _ (E : Cyclotomic) (N : JobNumbers) where
  -- no sheet has one record more than these, with bytes as these go on
  abbrev pub NoRecord : List (Record E) → List ℕ → Type 0
  NoRecord records bytes = (t : Sheet E) → Spelled E N t → (r : Record E) (tail : List ℕ) → t.records ≡ records ++ r ∷ [] → bytes ≡ record_bytes E r ++ tail → ⊥

  -- no sheet has just these records, and a last byte as these go on
  abbrev pub NoLastByte : List (Record E) → List ℕ → Type 0
  NoLastByte records bytes = (t : Sheet E) → Spelled E N t → (tail : List ℕ) → t.records ≡ records → bytes ≡ last_byte t.cursor ∷ tail → ⊥

  -- some sheet has just these records, and a last byte as these go on, but they go on further
  abbrev pub Surplus : List (Record E) → List ℕ → Type 0
  Surplus records bytes = (t : Sheet E) × Spelled E N t × (t.records ≡ records) × ((b : ℕ) × (tail : List ℕ) × (bytes ≡ last_byte t.cursor ∷ b ∷ tail))

  -- Where bytes behind a header that counts so many records begin to be no save. The records of some sheet stand first, and then:
  -- there are fewer than are counted, and the place is where the next would begin, as no record goes on;
  -- or there are as many as are counted, and the place is where the last byte would stand, as none goes on;
  -- or that byte is there, and the place is just behind it, where the file should have ended.
  pub record Failing (count : ℕ) (bytes : List ℕ) (place : ℕ) : Type 0 where
    pub before : Sheet E
    pub spelled : Spelled E N before
    pub rest : List ℕ
    pub read : bytes ≡ flat_map (record_bytes E) before.records ++ rest
    pub because :
        ((place ≡ 3 + length (flat_map (record_bytes E) before.records)) × (length before.records < count) × NoRecord before.records rest)
        ⊎ (((place ≡ 3 + length (flat_map (record_bytes E) before.records)) × (length before.records ≡ count) × NoLastByte before.records rest)
        ⊎ ((place ≡ 3 + length (flat_map (record_bytes E) before.records) + 1) × (length before.records ≡ count) × Surplus before.records rest))

-- A file is bad at 0 for its header, and else where what follows the header begins to be no save.
abbrev pub FaultsArePlaced : Cyclotomic → Type 0
FaultsArePlaced E = (N : JobNumbers) → N.depth ≤ most_depth →
    (file : List ℕ) (place : ℕ) → judged E N file ≡ Err place →
    ((place ≡ 0) × Headless N file) ⊎ Failing E N (get_or file 1 0 * 256 + get_or file 2 0) (drop 3 file) place
