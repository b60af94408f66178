-- Bytes written into a buffer.
use Rattle.std.specs.Prelude.{ℕ, ◌+◌, ◌≤◌, List, ◌++◌, length, take, drop, Some, None, Option}
use Rattle.exact.specs.Cyclotomic.{Cyclotomic}
use Rattle.chains.specs.Books.{Placement}
use Rattle.rings.specs.Plane.{OnPlane}
use Rattle.jobs.specs.Limits.{most_depth}
use Rattle.calls.specs.Records.{Record}

-- a buffer with some bytes from a place on in place of its own
abbrev pub with_bytes : List ℕ → ℕ → List ℕ → List ℕ
with_bytes buffer at bytes = take at buffer ++ (bytes ++ drop (at + length bytes) buffer)

module _ (E : Cyclotomic) where
  abbrev pub LaidOnPlane : Option (Placement E) → Type 0
  LaidOnPlane None = Unit {0}
  LaidOnPlane (Some p) = OnPlane E p.place

  -- a record that has bytes: its descents leave room for the marks, and each coefficient fits four bytes
  abbrev pub Writable : Record E → Type 0
  Writable r = (r.descents ≤ most_depth) × LaidOnPlane r.laid
