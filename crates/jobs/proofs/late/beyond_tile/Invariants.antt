use Rattle.std.proofs.Common.{◌≡◌, ◌+◌, map, length, drop}
use Rattle.std.specs.List.{flat_map}
use Rattle.jobs.specs.Refusals.{first_beyond}
use Rattle.jobs.specs.Rows.{tile_of}
use Rattle.jobs.specs.Spelled.{tile_lines}
use Rattle.jobs.proofs.late.beyond_tile.Given as goal

abbrev pub invariant-loop-tile : goal.invariant-loop-tile
invariant-loop-tile l =
    (first_beyond (length l.tiles) l.first (flat_map tile_lines (map tile_of l.tiles)) ≡ first_beyond (length l.tiles) l.line (flat_map tile_lines (map tile_of (drop l.tile-index l.tiles))))
    × (l.line + length (flat_map tile_lines (map tile_of (drop l.tile-index l.tiles))) ≡ l.first + length (flat_map tile_lines (map tile_of l.tiles)))
