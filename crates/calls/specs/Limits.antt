-- The limit of a piece list.
use Rattle.std.specs.Prelude.{ℕ, min}

-- records of a sheet: places of a list beyond these are never used
abbrev pub most_pieces : ℕ
most_pieces = 4096

-- the places of a list of so many that may be used
abbrev pub usable : ℕ → ℕ
usable room = min room most_pieces
