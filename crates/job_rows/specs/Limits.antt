-- How long the lists of a book may be.
use Rattle.std.specs.Prelude.{ℕ}

-- the parts of a subdivision
abbrev pub most_parts : ℕ
most_parts = 8

-- the steps of an outline
abbrev pub most_steps : ℕ
most_steps = 12

-- the children of a tile
abbrev pub most_children : ℕ
most_children = 16
