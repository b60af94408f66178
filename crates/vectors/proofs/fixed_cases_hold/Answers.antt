use Rattle.std.proofs.Common.{refl}
use Rattle.chains.specs.Addresses.{child_count, child_tile, seed_tile, tile_below, leads_down, node_tile, has_node, seed_on, next_child, next_path, next_node, advance, child_placement, placement_below, seed_placement, node_placement}
use Rattle.chains.proofs.Examples.{opened}
use Rattle.nodes.specs.OnPlane.{small, on_plane, kept_image, kept_child, kept_along, kept_corners_from, kept_corners}
use Rattle.nodes.specs.Table.{kept_below, kept_way, node_on_plane, table}
use Rattle.calls.specs.Sheets.{start, descend, lay_by, set_aside}
use Rattle.calls.specs.Moves.{moved, replayed}
use Rattle.files.specs.Files.{record_bytes, saved}
use Rattle.vectors.proofs.fixed_cases_hold.Goals as goal

pub returns : goal.returns
unfolding opened child_count child_tile seed_tile tile_below leads_down node_tile has_node seed_on next_child next_path next_node advance child_placement placement_below seed_placement node_placement small on_plane kept_image kept_child kept_along kept_corners_from kept_corners kept_below kept_way node_on_plane table start descend lay_by set_aside moved replayed record_bytes saved
returns c = (refl, (refl, (refl, (refl, (refl, (refl, (refl, (refl, tt))))))))
