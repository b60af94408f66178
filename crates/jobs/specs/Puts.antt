-- Bytes put onto a sheet, behind those that it has.
use Rattle.std.specs.Prelude.{◌≡◌, ℕ, ◌+◌, ◌<◌, List, ◌++◌, length, Result, MatchResult}
use Rattle.arrayvec.specs.ArrayVec.{ArrayVec}
use Rattle.faults.specs.declared.TooShort.{TooShort}
use Rattle.jobs.specs.Limits.{most_bytes}

-- new is old with bs; refused exactly where there is no room for all of bs
abbrev pub Puts : ArrayVec ℕ → List ℕ → ArrayVec ℕ → Result (Unit {0}) TooShort → Type 0
Puts old bs new r = MatchResult r (λ _. new.items ≡ old.items ++ bs) (λ _. most_bytes < length old.items + length bs)
