-- A job that can be gone down to its depth: there is a seed tile, each tile has a child, and seed tiles and children name tiles that there are.
use Rattle.std.specs.Prelude.{◌<◌, ◌≤◌, length}
use Rattle.std.specs.List.{AllByRecursion}
use Rattle.exact.specs.JobNumbers.{PlacedNumbers, TileNumbers, JobNumbers}
use Rattle.jobs.specs.Limits.{most_depth}

pub record Branching (N : JobNumbers) : Type 0 where
  pub shallow : N.depth ≤ most_depth
  pub seeded : 0 < length N.seeds
  pub seeds_named : AllByRecursion (λ (p : PlacedNumbers). p.tile < length N.tiles) N.seeds
  pub families : AllByRecursion (λ (t : TileNumbers). 0 < length t.children) N.tiles
  pub children_named : AllByRecursion (λ (t : TileNumbers). AllByRecursion (λ (p : PlacedNumbers). p.tile < length N.tiles) t.children) N.tiles
