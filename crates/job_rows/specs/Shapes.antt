-- The numbers of rows, once it is said which coefficients stand for an element.
use Rattle.std.specs.Prelude.{ℕ, List, map, ℤ, vec_items}
use Rattle.exact.specs.JobNumbers as numbers
use Rattle.job_rows.specs.declared.Part.{Part}
use Rattle.job_rows.specs.declared.Step.{Step}
use Rattle.job_rows.specs.declared.Label.{Label}
use Rattle.job_rows.specs.declared.Placed.{Placed}
use Rattle.job_rows.specs.declared.Tile.{Tile}
use Rattle.job_rows.specs.declared.Book.{Book}

abbrev pub part_of : Part → numbers.Part
part_of p = record { label = p.label; forward = p.forward }

abbrev pub step_of : Step → numbers.Step
step_of s = record { label = s.label; forward = s.forward; direction = s.direction }

module _ {S : Type 0} (listed : S → List ℤ) where
  abbrev pub label_with : Label S → numbers.LabelNumbers
  label_with l = record { arrowed = l.arrowed; length = listed l.length; subdivision = map part_of (vec_items l.subdivision) }

  abbrev pub placed_with : Placed S → numbers.PlacedNumbers
  placed_with p = record { tile = p.tile; turn = p.turn; mirrored = p.mirrored; place = listed p.place }

  abbrev pub tile_with : Tile S → numbers.TileNumbers
  tile_with t = record { outline = map step_of (vec_items t.outline); children = map placed_with (vec_items t.children) }

  -- a job's numbers: n and d, the book, the depth and the seed tiles
  abbrev pub numbers_with : ℕ → ℕ → Book S → ℕ → List (Placed S) → numbers.JobNumbers
  numbers_with n d b depth seeds = record {
    order = n;
    rank = d;
    factor = listed b.factor;
    labels = map label_with (vec_items b.labels);
    tiles = map tile_with (vec_items b.tiles);
    depth = depth;
    seeds = map placed_with seeds;
  }
