-- The nodes at a job's depth, in depth-first order: the pieces of the inflation rule.
use Rattle.std.specs.Prelude.{ℕ, zero, suc, ◌-◌, List, [], ◌∷◌}
use Rattle.std.specs.List.{flat_map}
use Rattle.exact.specs.JobNumbers.{JobNumbers}
use Rattle.chains.specs.Addresses.{Address, level, seeds_from, children_from}

module _ (N : JobNumbers) where
  -- so many levels below a node: its children's, one child after the other
  unfoldable pub levels_below : ℕ → Address → List Address
  levels_below zero a = a ∷ []
  levels_below (suc k) a = flat_map (levels_below k) (children_from N a 0)

  -- the nodes at the depth that a node comes to
  abbrev pub pieces_of : Address → List Address
  pieces_of a = levels_below (N.depth - level a) a

  -- all nodes at the depth: those of each seed tile, one seed tile after the other
  unfoldable pub pieces : List Address
  pieces = flat_map (levels_below N.depth) (seeds_from N 0)
