-- What a draft holds before and after the lines that give it: the ring, the factor, the tile that is begun.
use Rattle.std.specs.Prelude.{ℕ, List, [], map, ℤ, Some, None, Option, vec_items}
use Rattle.std.specs.Global.{Vec}
use Rattle.exact.specs.JobNumbers.{PlacedNumbers, Step}
use Rattle.job_rows.specs.declared.Tile.{Tile}
use Rattle.jobs.specs.declared.ring.NamedRing.{NamedRing}
use Rattle.jobs.specs.Rings.{order_of, rank_of}
use Rattle.job_rows.specs.Shapes.{step_of}
use Rattle.jobs.specs.Rows.{placed_of}

abbrev pub order_in : Option NamedRing → ℕ
order_in None = 0
order_in (Some r) = order_of r

abbrev pub rank_in : Option NamedRing → ℕ
rank_in None = 0
rank_in (Some r) = rank_of r

abbrev pub factor_in : Option (Vec ℤ) → List ℤ
factor_in None = []
factor_in (Some v) = vec_items v

abbrev pub outline_in : Option (Tile (Vec ℤ)) → List Step
outline_in None = []
outline_in (Some t) = map step_of (vec_items t.outline)

abbrev pub children_in : Option (Tile (Vec ℤ)) → List PlacedNumbers
children_in None = []
children_in (Some t) = map placed_of (vec_items t.children)
