-- The numbers of a job.
use Rattle.std.specs.Prelude.{ℕ, ◌<◌, ◌≤◌, List, length, Some, None, vec_items, Option, slice_index_or}
use Rattle.exact.specs.JobNumbers.{JobNumbers}
use Rattle.job_rows.specs.Shapes.{numbers_with}
use Rattle.jobs.specs.declared.job.Job.{Job}
use Rattle.jobs.specs.Rings.{order_of, rank_of}
use Rattle.jobs.specs.Rows.{listed}

abbrev pub numbers : Job → JobNumbers
numbers j = numbers_with listed (order_of j.ring) (rank_of j.ring) j.book j.depth (vec_items j.seeds)

-- None past the end of xs, and else something that R ties to the element at i
abbrev pub Picks : {X Y : Type 0} → List X → ℕ → (X → Y → Type 0) → Option Y → Type 0
Picks xs i R None = length xs ≤ i
Picks {X} xs i R (Some y) = (i < length xs) × ((d : X) → R (slice_index_or xs i d) y)
