-- In a job that can be gone down, the tile of every node has a child.
use Rattle.std.proofs.Common.{◌≡◌, ℕ, zero, suc, ◌<◌, ◌≤◌, true, List, [], ◌∷◌, length, get_or, arith, subst}
use Rattle.std.specs.List.{AllByRecursion}
use Rattle.std.proofs.ByRecursion.{All-get_or}
use Rattle.exact.specs.Cyclotomic.{Cyclotomic}
use Rattle.exact.specs.JobNumbers.{PlacedNumbers, TileNumbers, JobNumbers}
use Rattle.chains.specs.Addresses.{Address, level, child_address, has_node, no_entry, child_entries, child_count, child_tile, seed_tile, tile_below, node_tile}
use Rattle.chains.proofs.Nodes.{has_child}
use Rattle.jobs.specs.Limits.{most_depth}
use Rattle.ring_jobs.specs.Shapes.{Branching}
use Rattle.ring_jobs.specs.RingJobs.{job_numbers}
use Rattle.ring_jobs.specs.declared.job.RingJob.{RingJob}
use Rattle.ring_jobs.proofs.Branches.{branching}

-- what holds of all entries and of what stands beyond them
every_or : {A : Type 0} (P : A → Type 0) (xs : List A) (i : ℕ) (d : A) → AllByRecursion P xs → P d → P (get_or xs i d)
every_or P [] i d h k = k
every_or P (x ∷ xs) zero d h k = h.0
every_or P (x ∷ xs) (suc i) d h k = every_or P xs i d h.1 k

module _ (N : JobNumbers) (B : Branching N) where
  abbrev Named : PlacedNumbers → Type 0
  Named p = p.tile < length N.tiles

  some_tile : 0 < length N.tiles
  some_tile = let h = All-get_or Named N.seeds 0 no_entry B.seeded B.seeds_named in omega (arith, h)

  named_child : (t i : ℕ) → t < length N.tiles → child_tile N t i < length N.tiles
  unfolding child_tile
  named_child t i h = every_or Named (child_entries N t) i no_entry
      (All-get_or (λ (u : TileNumbers). AllByRecursion Named u.children) N.tiles t (record { outline = []; children = [] }) h B.children_named) some_tile

  named_below : (t : ℕ) (path : List ℕ) → t < length N.tiles → tile_below N t path < length N.tiles
  unfolding tile_below
  named_below t [] h = h
  named_below t (i ∷ path) h = named_below (child_tile N t i) path (named_child t i h)

  pub named : (a : Address) → node_tile N a < length N.tiles
  unfolding node_tile seed_tile
  named a = named_below _ a.path (every_or Named N.seeds a.seed no_entry B.seeds_named some_tile)

  pub has_children : (a : Address) → 0 < child_count N (node_tile N a)
  unfolding child_count
  has_children a = All-get_or (λ (u : TileNumbers). 0 < length u.children) N.tiles (node_tile N a) (record { outline = []; children = [] }) (named a) B.families

-- the job that a placer lends can be gone down
module _ {S : Type 0} (E : Cyclotomic) (v : S → E.Elem) (j : RingJob S) where
  pub shallow : j.depth ≤ most_depth
  shallow = (branching E v j).shallow

  pub first_child_there : (N : JobNumbers) → job_numbers E v j ≡ N → (a : Address) → has_node N a ≡ true → level a < N.depth → has_node N (child_address a 0) ≡ true
  first_child_there N e a h below = has_child N a 0 h below (subst (λ M. 0 < child_count M (node_tile M a)) e (has_children (job_numbers E v j) (branching E v j) a))
