-- Where a file stops being a lawful save, record by record.
use Rattle.std.specs.Prelude.{ℕ, zero, suc, ◌+◌, ◌*◌, ◌/◌, ◌%◌, if◌then◌else◌, ◌&&◌, List, [], ◌∷◌, ◌++◌, length, take, drop, replicate, Some, None, Option, Ok, Err, Result, ◌==◌, nat_le}
use Rattle.std.specs.List.{flat_map}
use Rattle.exact.specs.Cyclotomic.{Cyclotomic}
use Rattle.exact.specs.JobNumbers.{JobNumbers}
use Rattle.calls.specs.Limits.{most_pieces}
use Rattle.calls.specs.Sheets.{Sheet, start}
use Rattle.calls.specs.Moves.{Move, descending, laying, setting_aside, replayed}
use Rattle.files.specs.Files.{same_bytes, record_bytes}

-- the calls that a record's first byte spells
abbrev pub record_moves : ℕ → List Move
record_moves b = replicate (b % 16) descending ++ ((if (b / 16) == 1 then setting_aside else laying) ∷ [])

module _ (E : Cyclotomic) (N : JobNumbers) where
  -- the bytes of the records that a later sheet has more than an earlier one
  unfoldable pub added : Sheet E → Sheet E → List ℕ
  added s t = flat_map (record_bytes E) (drop (length s.records) t.records)

  abbrev pub if_begun : Sheet E → List ℕ → Option (Sheet E) → Option (Sheet E)
  if_begun s bytes None = None
  if_begun s bytes (Some t) = if same_bytes (take (length (added s t)) bytes) (added s t) then Some t else None

  -- a record is read where its calls are accepted and what they record is written so
  unfoldable pub record_read : Sheet E → List ℕ → Option (Sheet E)
  record_read s [] = None
  record_read s (b ∷ bytes) = if_begun s (b ∷ bytes) (replayed E N most_pieces (record_moves b) s)

  -- the last byte is read where its descents are accepted
  unfoldable pub last_read : Sheet E → List ℕ → Option (Sheet E)
  last_read s [] = None
  last_read s (b ∷ bytes) = replayed E N most_pieces (replicate b descending) s

  -- a good file leads to a sheet, a bad one is bad at an offset
  abbrev pub ended : ℕ → List ℕ → Option (Sheet E) → Result (Sheet E) ℕ
  ended o bytes None = Err o
  ended o bytes (Some t) = if length bytes == 1 then Ok t else Err (o + 1)

  abbrev pub going_on : ℕ → Option (Sheet E) → (Sheet E → Result (Sheet E) ℕ) → Result (Sheet E) ℕ
  going_on o None next = Err o
  going_on o (Some t) next = next t

  -- so many records from an offset on, and the last byte
  unfoldable pub scanned : ℕ → ℕ → Sheet E → List ℕ → Result (Sheet E) ℕ
  scanned zero o s bytes = ended o bytes (last_read s bytes)
  scanned (suc k) o s bytes = going_on o (record_read s bytes) (λ t. scanned k (o + length (added s t)) t (drop (length (added s t)) bytes))

  -- the header first: it is bad where it is cut, of another depth, or counts more records than a list may hold
  unfoldable pub judged : List ℕ → Result (Sheet E) ℕ
  judged [] = Err 0
  judged (d ∷ []) = Err 0
  judged (d ∷ high ∷ []) = Err 0
  judged (d ∷ high ∷ low ∷ bytes) = if (d == N.depth) && nat_le (high * 256 + low) most_pieces then scanned (high * 256 + low) 3 (start E N) bytes else Err 0
