-- Bytes put into a buffer from a place on.
use Rattle.std.specs.Prelude.{◌≡◌, ℕ, ◌+◌, ◌^◌, ◌≤◌, List, length, Some, None, Option}
use Rattle.saves.specs.Written.{with_bytes}

-- The place behind the bytes is answered, whether they fit or not, so that a text can be measured by putting it into an empty buffer;
-- the bytes are in the buffer where they fit. None only where that place is beyond all numbers of the machine.
abbrev pub Puts : List ℕ → ℕ → List ℕ → List ℕ → Option ℕ → Type 0
Puts old at bytes new (Some end) = (end ≡ at + length bytes) × (length new ≡ length old) × (end ≤ length old → new ≡ with_bytes old at bytes)
Puts old at bytes new None = 2 ^ 64 ≤ at + length bytes
