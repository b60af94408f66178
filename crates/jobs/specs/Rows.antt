-- The numbers that the rows of a job hold.
use Rattle.std.specs.Prelude.{List, ℤ, vec_items}
use Rattle.std.specs.Global.{Vec}
use Rattle.exact.specs.JobNumbers.{LabelNumbers, PlacedNumbers, TileNumbers}
use Rattle.job_rows.specs.declared.Label.{Label}
use Rattle.job_rows.specs.declared.Placed.{Placed}
use Rattle.job_rows.specs.declared.Tile.{Tile}
use Rattle.job_rows.specs.Shapes.{label_with, placed_with, tile_with}

-- an element is a list of coefficients
abbrev pub listed : Vec ℤ → List ℤ
listed v = vec_items v

abbrev pub label_of : Label (Vec ℤ) → LabelNumbers
label_of l = label_with listed l

abbrev pub placed_of : Placed (Vec ℤ) → PlacedNumbers
placed_of p = placed_with listed p

abbrev pub tile_of : Tile (Vec ℤ) → TileNumbers
tile_of t = tile_with listed t
