-- Frontiers: a job's nodes that are laid, set aside or still pending, and the moves from one frontier to another.
use Rattle.std.specs.Prelude.{◌≡◌, ◌-◌, ◌<◌, true, List, [], ◌∷◌, ◌++◌, ◌+ℤ◌}
use mathlib.Core.List.{flat_map}
use Rattle.exact.specs.Cyclotomic.{Cyclotomic}
use Rattle.exact.specs.JobNumbers.{JobNumbers}
use Rattle.std.specs.List.{AllByRecursion}
use Rattle.chains.specs.Books.{book_of, seeds_of}
use Rattle.chains.specs.Edges.{Edge, Chain, net}
use Rattle.chains.specs.Inflation.{inflated}
use Rattle.chains.specs.Placements.{placed_outline, outlines}
use Rattle.chains.specs.Addresses.{Address, level, has_node, seeds_from, children_from, node_placement}

pub record Frontier : Type 0 where
  pub laid : List Address
  pub aside : List Address
  pub pending : List Address

module _ (N : JobNumbers) where
  -- every seed tile is pending
  abbrev pub start : Frontier
  start = record { laid = []; aside = []; pending = seeds_from N 0 }

  -- One pending node, wherever it stands among them, goes from the pending ones:
  -- above the depth its children take its place; at the depth it may be laid; at any level it may be set aside.
  pub data Move : Frontier → Frontier → Type 0 where
    expand : (ls ss before after : List Address) (a : Address) → level a < N.depth →
        Move (record { laid = ls; aside = ss; pending = before ++ a ∷ after }) (record { laid = ls; aside = ss; pending = before ++ (children_from N a 0 ++ after) })
    lay : (ls ss before after : List Address) (a : Address) → level a ≡ N.depth →
        Move (record { laid = ls; aside = ss; pending = before ++ a ∷ after }) (record { laid = ls ++ a ∷ []; aside = ss; pending = before ++ after })
    set_aside : (ls ss before after : List Address) (a : Address) →
        Move (record { laid = ls; aside = ss; pending = before ++ a ∷ after }) (record { laid = ls; aside = ss ++ a ∷ []; pending = before ++ after })

  -- the frontiers that moves lead to from the start
  pub data Reached : Frontier → Type 0 where
    at_start : Reached start
    then : (f g : Frontier) → Reached f → Move f g → Reached g

  -- all nodes of a frontier are the job's
  abbrev pub OfTheJob : Frontier → Type 0
  OfTheJob f = AllByRecursion (λ a. has_node N a ≡ true) f.laid × AllByRecursion (λ a. has_node N a ≡ true) f.aside × AllByRecursion (λ a. has_node N a ≡ true) f.pending

module _ (E : Cyclotomic) (N : JobNumbers) where
  -- a node's outline
  unfoldable pub node_outline : Address → Chain E
  node_outline a = placed_outline E (book_of E N) (node_placement E N a)

  -- a node's outline, inflated by the levels that it lacks
  unfoldable pub grown_outline : Address → Chain E
  grown_outline a = inflated E (book_of E N) (N.depth - level a) (node_outline a)

  -- the outlines of the laid nodes
  unfoldable pub laid_outlines : Frontier → Chain E
  laid_outlines f = flat_map node_outline f.laid

  -- the outlines of the nodes set aside and pending, each inflated by the levels that it lacks
  unfoldable pub lacking_outlines : Frontier → Chain E
  lacking_outlines f = flat_map grown_outline (f.aside ++ f.pending)

  -- the seed tiles' outlines inflated to the depth
  unfoldable pub seed_outlines : Chain E
  seed_outlines = inflated E (book_of E N) N.depth (outlines E (book_of E N) (seeds_of E N))

  -- The boundary is conserved: at every edge, what is laid and what is lacking count together what the inflated seed counts.
  abbrev pub Conserved : Frontier → Type 0
  Conserved f = (y : Edge E) →
      net E (book_of E N) (laid_outlines f) y +ℤ net E (book_of E N) (lacking_outlines f) y ≡ net E (book_of E N) seed_outlines y
