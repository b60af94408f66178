-- Nodes by their addresses. Which nodes there are, which are pending behind a cursor and where it goes next
-- follows from the job's numbers alone; where a node lies follows from them over a ring.
use Rattle.std.specs.Prelude.{ℕ, ◌+◌, ◌-◌, Bool, true, false, cond, ◌&&◌, List, [], ◌∷◌, ◌++◌, map, length, get_or, Some, None, Option, nat_le, nat_lt, slice_index_or}
use Rattle.std.specs.List.{range_with_len}
use Rattle.exact.specs.Cyclotomic.{Cyclotomic}
use Rattle.exact.specs.JobNumbers.{PlacedNumbers, JobNumbers}
use Rattle.chains.specs.Books.{Placement, placement_of, book_of}
use Rattle.chains.specs.Placements.{child_of}

-- a seed tile's number, and the child numbers from it on down
pub record Address : Type 0 where
  pub seed : ℕ
  pub path : List ℕ

abbrev pub level : Address → ℕ
level a = length a.path

abbrev pub seed_address : ℕ → Address
seed_address i = record { seed = i; path = [] }

abbrev pub child_address : Address → ℕ → Address
child_address a i = record { seed = a.seed; path = a.path ++ i ∷ [] }

-- ---- which nodes there are
-- where a list of children or seed tiles has no entry of that number
abbrev pub no_entry : PlacedNumbers
no_entry = record { tile = 0; turn = 0; mirrored = false; place = [] }

module _ (N : JobNumbers) where
  -- the children of tile t; beyond the last tile there are none
  abbrev pub child_entries : ℕ → List PlacedNumbers
  child_entries t = (get_or N.tiles t (record { outline = []; children = [] })).children

  unfoldable pub child_count : ℕ → ℕ
  child_count t = length (child_entries t)

  unfoldable pub child_tile : ℕ → ℕ → ℕ
  child_tile t i = (get_or (child_entries t) i no_entry).tile

  unfoldable pub seed_tile : ℕ → ℕ
  seed_tile i = (get_or N.seeds i no_entry).tile

  -- the tile that a path of child numbers leads to from tile t, and whether there is such a path
  unfoldable pub tile_below : ℕ → List ℕ → ℕ
  tile_below t [] = t
  tile_below t (i ∷ path) = tile_below (child_tile t i) path

  unfoldable pub leads_down : ℕ → List ℕ → Bool
  leads_down t [] = true
  leads_down t (i ∷ path) = nat_lt i (child_count t) && leads_down (child_tile t i) path

  -- a node's tile, and whether the job has that node: a seed tile or, down to the depth, a child of a node
  unfoldable pub node_tile : Address → ℕ
  node_tile a = tile_below (seed_tile a.seed) a.path

  unfoldable pub has_node : Address → Bool
  has_node a = nat_le (level a) N.depth && nat_lt a.seed (length N.seeds) && leads_down (seed_tile a.seed) a.path

  -- the seed tiles from number i on, and a node's children, in order
  unfoldable pub seeds_from : ℕ → List Address
  seeds_from i = map seed_address (range_with_len i (length N.seeds - i))

  unfoldable pub children_from : Address → ℕ → List Address
  children_from a i = map (child_address a) (range_with_len i (child_count (node_tile a) - i))

  -- ---- what is pending behind a cursor
  -- below tile t, the later children beside a path's end and beside each node on the way, nearest first
  unfoldable pub later : ℕ → List ℕ → List (List ℕ)
  later t [] = []
  later t (i ∷ path) = map (◌∷◌ i) (later (child_tile t i) path) ++ map (λ j. j ∷ []) (range_with_len (i + 1) (child_count t - (i + 1)))

  -- the later children beside a node and beside each ancestor, and the later seed tiles
  unfoldable pub behind : Address → List Address
  behind a = map (λ path. record { seed = a.seed; path = path }) (later (seed_tile a.seed) a.path) ++ seeds_from (a.seed + 1)

  -- pending at a cursor: its node, and what is behind it; with no cursor, nothing
  unfoldable pub pending : Option Address → List Address
  pending None = []
  pending (Some a) = a ∷ behind a

  -- ---- where the cursor goes
  -- the first seed tile of number i or more
  unfoldable pub seed_on : ℕ → Option Address
  seed_on i = cond (nat_lt i (length N.seeds)) (Some (seed_address i)) None

  -- below tile t: on within child i or, where that is done, to the next child, if there is one
  unfoldable pub next_child : ℕ → ℕ → Option (List ℕ) → Option (List ℕ)
  next_child t i (Some path) = Some (i ∷ path)
  next_child t i None = cond (nat_lt (i + 1) (child_count t)) (Some ((i + 1) ∷ [])) None

  unfoldable pub next_path : ℕ → List ℕ → Option (List ℕ)
  next_path t [] = None
  next_path t (i ∷ path) = next_child t i (next_path (child_tile t i) path)

  unfoldable pub next_node : ℕ → Option (List ℕ) → Option Address
  next_node i (Some path) = Some (record { seed = i; path = path })
  next_node i None = seed_on (i + 1)

  -- to the next child of the same parent, else on from the parent; from level 0 to the next seed tile; after the last, nothing is left
  unfoldable pub advance : Address → Option Address
  advance a = next_node a.seed (next_path (seed_tile a.seed) a.path)

-- ---- where a node lies
module _ (E : Cyclotomic) (N : JobNumbers) where
  -- child i of a placed tile, and so on down a path
  unfoldable pub child_placement : Placement E → ℕ → Placement E
  child_placement p i = child_of E (book_of E N) p (placement_of E (slice_index_or (child_entries N p.tile) i no_entry))

  unfoldable pub placement_below : Placement E → List ℕ → Placement E
  placement_below p [] = p
  placement_below p (i ∷ path) = placement_below (child_placement p i) path

  unfoldable pub seed_placement : ℕ → Placement E
  seed_placement i = placement_of E (slice_index_or N.seeds i no_entry)

  unfoldable pub node_placement : Address → Placement E
  node_placement a = placement_below (seed_placement a.seed) a.path

  -- a node's exact placement, or none where the job has no such node
  unfoldable pub placement_at : Address → Option (Placement E)
  placement_at a = cond (has_node N a) (Some (node_placement a)) None
