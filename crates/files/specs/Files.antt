-- Saved files: what a sheet writes, the calls that a file spells, and which files are lawful saves.
use Rattle.std.specs.Prelude.{ℕ, zero, suc, ◌+◌, ◌*◌, ◌/◌, ◌%◌, Bool, if◌then◌else◌, ◌&&◌, false, true, List, [], ◌∷◌, ◌++◌, length, get_or, drop, replicate, ℤ, Some, None, Option, ◌==◌}
use Rattle.std.specs.List.{flat_map}
use Rattle.std.specs.Int.{w32, to_be_bytes, cast_unsigned}
use Rattle.exact.specs.Cyclotomic.{Cyclotomic}
use Rattle.exact.specs.JobNumbers.{JobNumbers}
use Rattle.chains.specs.Books.{Placement}
use Rattle.calls.specs.Limits.{most_pieces}
use Rattle.calls.specs.Records.{Record}
use Rattle.calls.specs.Sheets.{Cursor, Sheet, start}
use Rattle.calls.specs.Moves.{Move, descending, laying, setting_aside, replayed}

-- added to a record's descents where the node is set aside, and where the piece is laid mirrored
abbrev pub aside_mark : ℕ
aside_mark = 16

abbrev pub mirror_mark : ℕ
mirror_mark = 32

-- a coefficient in four bytes, high byte first, in two's complement
abbrev pub coefficient_bytes : ℤ → List ℕ
coefficient_bytes c = to_be_bytes w32 (cast_unsigned w32 c)

-- the cursor's descents since the last advance, 0 when nothing is left
abbrev pub last_byte : Option Cursor → ℕ
last_byte None = 0
last_byte (Some c) = c.descents

unfoldable pub same_bytes : List ℕ → List ℕ → Bool
same_bytes [] [] = true
same_bytes [] (y ∷ ys) = false
same_bytes (x ∷ xs) [] = false
same_bytes (x ∷ xs) (y ∷ ys) = (x == y) && same_bytes xs ys

module _ (E : Cyclotomic) where
  -- the bytes of a place, and how many they are
  abbrev pub place_bytes : E.Elem → List ℕ
  place_bytes z = flat_map coefficient_bytes (E.list z)

  abbrev pub place_width : ℕ
  place_width = 4 * E.d

  -- a record: its descents with its marks and, for a laid piece, its turn (which counts modulo n) and its place
  abbrev pub bytes_of : ℕ → Option (Placement E) → List ℕ
  bytes_of descents None = (descents + aside_mark) ∷ []
  bytes_of descents (Some p) = (descents + (if p.mirrored then mirror_mark else 0)) ∷ (p.turn % E.n) ∷ place_bytes p.place

  unfoldable pub record_bytes : Record E → List ℕ
  record_bytes r = bytes_of r.descents r.laid

  module _ (N : JobNumbers) where
    -- what save writes: the depth, the number of records in two bytes, high byte first, the records, and the cursor's descents
    unfoldable pub saved : Sheet E → List ℕ
    saved s = N.depth ∷ (length s.records / 256) ∷ (length s.records % 256) ∷ (flat_map record_bytes s.records ++ last_byte s.cursor ∷ [])

    -- the calls that a file spells: for so many records their descents and what became of the node, then the last byte's descents
    unfoldable pub spelled_from : ℕ → List ℕ → List Move
    spelled_from zero bytes = replicate (get_or bytes 0 0) descending
    spelled_from (suc k) [] = []
    spelled_from (suc k) (b ∷ bytes) = replicate (b % 16) descending ++
        (if (b / 16) == 1 then setting_aside ∷ spelled_from k bytes else laying ∷ spelled_from k (drop (suc place_width) bytes))

    unfoldable pub spelled : List ℕ → List Move
    spelled file = spelled_from (get_or file 1 0 * 256 + get_or file 2 0) (drop 3 file)

    -- the sheet that a lawful save leads to: given room all its calls are accepted on a new sheet, and save then writes the file
    abbrev pub if_saved : List ℕ → Option (Sheet E) → Option (Sheet E)
    if_saved file None = None
    if_saved file (Some t) = if same_bytes (saved t) file then Some t else None

    unfoldable pub restored : List ℕ → Option (Sheet E)
    restored file = if_saved file (replayed E N most_pieces (spelled file) (start E N))
