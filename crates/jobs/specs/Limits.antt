-- The limits of a job and of its text.
use Rattle.std.specs.Prelude.{◌≡◌, ℕ, ◌⊎◌}

-- bytes of a text
abbrev pub most_bytes : ℕ
most_bytes = 16384

-- the size of a coefficient, either way
abbrev pub most_size : ℕ
most_size = 32

abbrev pub most_labels : ℕ
most_labels = 8

-- steps of an outline. (The most steps, parts and children stand in the types of rows.)
abbrev pub least_steps : ℕ
least_steps = 3

abbrev pub most_tiles : ℕ
most_tiles = 8

abbrev pub most_depth : ℕ
most_depth = 12

abbrev pub most_seeds : ℕ
most_seeds = 16

-- the rings that a job may name, by order and rank
abbrev pub Ring : ℕ → ℕ → Type 0
Ring n d = ((n ≡ 4) × (d ≡ 2)) ⊎ ((n ≡ 10) × (d ≡ 4))
