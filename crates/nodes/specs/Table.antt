-- The table that a placer answers from: for each address the node's placement, or that there is no such node, or that it is off the plane.
use Rattle.std.specs.Prelude.{ℕ, Bool, true, cond, ◌&&◌, List, [], ◌∷◌, nat_lt, slice_index_or}
use Rattle.exact.specs.Cyclotomic.{Cyclotomic}
use Rattle.exact.specs.JobNumbers.{JobNumbers}
use Rattle.chains.specs.Books.{Placement, book_of, placement_of}
use Rattle.chains.specs.Addresses.{Address, has_node, child_entries, child_count, no_entry, child_placement, seed_placement, node_placement}
use Rattle.nodes.specs.OnPlane.{on_plane, kept_child, kept_corners}

pub data Entry (E : Cyclotomic) : Type 0 where
  there : Placement E → Entry E
  missing : Entry E
  outside : Entry E

module _ (E : Cyclotomic) (N : JobNumbers) where
  -- all that the formulas make from a placed tile down a path, step by step
  unfoldable pub kept_below : Placement E → List ℕ → Bool
  kept_below p [] = true
  kept_below p (i ∷ path) = kept_child E (book_of E N) p (placement_of E (slice_index_or (child_entries N p.tile) i no_entry)) && kept_below (child_placement E N p i) path

  -- child k of a placed tile, its own corners not looked at
  unfoldable pub child_entry : Placement E → ℕ → Entry E
  child_entry p k = cond (nat_lt k (child_count N p.tile)) (cond (kept_child E (book_of E N) p (placement_of E (slice_index_or (child_entries N p.tile) k no_entry))) (there (child_placement E N p k)) outside) missing

  -- an entry whose placement's own corners leave the plane is outside
  unfoldable pub cornered : Entry E → Entry E
  cornered (there p) = cond (kept_corners E (book_of E N) p) (there p) outside
  cornered missing = missing
  cornered outside = outside

  -- all that the formulas make for a node's placement
  unfoldable pub kept_way : Address → Bool
  kept_way a = on_plane E (seed_placement E N a.seed).place && kept_below (seed_placement E N a.seed) a.path

  -- a node is on the plane where nothing that the formulas make for its placement, step by step down its address, and then for its own
  -- corners leaves it; an ancestor's corners are not among them
  unfoldable pub node_on_plane : Address → Bool
  node_on_plane a = kept_way a && kept_corners E (book_of E N) (node_placement E N a)

  unfoldable pub table : Address → Entry E
  table a = cond (has_node N a) (cond (node_on_plane a) (there (node_placement E N a)) outside) missing
