-- The theorems, as statements over one ring: a contract holds no statement over all rings, so its function's parameter brings the ring.
use Rattle.std.specs.Prelude.{◌≡◌, ℕ, ◌+◌, ◌<◌, ◌≤◌, cond, List, ◌∷◌, ◌++◌, map, length, ◌+ℤ◌, Some, None, nat_lt, slice_index_or}
use Rattle.std.specs.List.{AllByRecursion}
use Rattle.exact.specs.Cyclotomic.{Cyclotomic}
use Rattle.exact.specs.Groups.{AbelianGroup}
use Rattle.exact.specs.JobNumbers.{JobNumbers}
use Rattle.chains.specs.Counts.{reading}
use Rattle.chains.specs.Books.{Book, Placement, label_at, book_of, seeds_of}
use Rattle.chains.specs.Edges.{Edge, Chain, canonical, net, SameNet, ReadsEdges, sums, edge_sweep}
use Rattle.chains.specs.Inflation.{inflate}
use Rattle.chains.specs.Placements.{image, heading, placed, stretched, child_of, children_of, outline, placed_outline, outlines}
use Rattle.chains.specs.Accepted.{total_sweep, SubdivisionFits, Accepted}
use Rattle.chains.specs.Addresses.{Address, level, seed_address, child_address, child_count, node_tile, children_from, seeds_from, seed_on, behind, pending, advance, node_placement, placement_at}
use Rattle.chains.specs.Frontiers.{Frontier, Move, Reached, OfTheJob, Conserved, node_outline, laid_outlines, lacking_outlines, seed_outlines}

-- Chains with equal net counts have equal sums under every reading of edges into a commutative group.
abbrev pub SameNetsReadAlike : Cyclotomic → AbelianGroup → Type 0
SameNetsReadAlike E G = (B : Book E) (r : Edge E → G.Val) → ReadsEdges E B G r →
    (c c' : Chain E) → SameNet E B c c' → reading G r c ≡ reading G r c'

-- The sweep from an edge's start to its end is such a reading, into the ring's sums; an outline's reading is its total sweep.
pub record SweepsReadEdges (E : Cyclotomic) : Type 0 where
  pub reads : (B : Book E) → ReadsEdges E B (sums E) (edge_sweep E B)
  pub outline_reads : (B : Book E) (t : ℕ) → reading (sums E) (edge_sweep E B) (outline E B t) ≡ total_sweep E B t

-- Where every subdivision fits, inflation keeps equal net counts.
abbrev pub InflationKeepsSameNets : Cyclotomic → Type 0
InflationKeepsSameNets E = (B : Book E) → ((e : ℕ) → e < length B.labels → SubdivisionFits E B e) →
    (c c' : Chain E) → SameNet E B c c' → SameNet E B (inflate E B c) (inflate E B c')

-- lengths that equal their conjugates
abbrev pub RealLengths : (E : Cyclotomic) → Book E → Type 0
RealLengths E B = (e : ℕ) → e < length B.labels → E.conj (label_at B e).length ≡ (label_at B e).length

-- With a real factor and real lengths, to inflate a chain placed at P is to place the inflated chain at F·P.
abbrev pub PlacingAndInflatingCommute : Cyclotomic → Type 0
PlacingAndInflatingCommute E = (B : Book E) → E.conj B.factor ≡ B.factor → RealLengths E B →
    (p : Placement E) (c : Chain E) → inflate E B (placed E p c) ≡ placed E (stretched E B p) (inflate E B c)

-- With real lengths, placing keeps equal net counts.
abbrev pub PlacingKeepsSameNets : Cyclotomic → Type 0
PlacingKeepsSameNets E = (B : Book E) → RealLengths E B →
    (p : Placement E) (c c' : Chain E) → SameNet E B c c' → SameNet E B (placed E p c) (placed E p c')

-- To place by a child of a placed parent is to place by the child and then by the parent at F·P: points, directions and chains.
abbrev pub ChildrenCompose : Cyclotomic → Type 0
ChildrenCompose E = (B : Book E) (p c : Placement E) →
    ((z : E.Elem) → image E (child_of E B p c) z ≡ image E (stretched E B p) (image E c z))
    × ((j : ℕ) → heading E (child_of E B p c) j ≡ heading E p (heading E c j))
    × ((xs : Chain E) → placed E (child_of E B p c) xs ≡ placed E (stretched E B p) (placed E c xs))

-- The placed children of a placed tile have the net counts of its placed outline inflated once.
abbrev pub ChildrenBalanceTheirParent : Cyclotomic → Type 0
ChildrenBalanceTheirParent E = (B : Book E) → Accepted E B →
    (p : Placement E) → SameNet E B (outlines E B (children_of E B p)) (inflate E B (placed_outline E B p))

-- Chains that agree at the edges that occur in them agree at every edge.
abbrev pub AgreeingWhereEdgesOccurIsEnough : Cyclotomic → Type 0
AgreeingWhereEdgesOccurIsEnough E = (B : Book E) (c c' : Chain E) →
    AllByRecursion (λ x. net E B c (canonical E B x).what ≡ net E B c' (canonical E B x).what) (c ++ c') →
    SameNet E B c c'

-- Each move keeps the boundary conserved.
abbrev pub MovesConserveTheBoundary : Cyclotomic → Type 0
MovesConserveTheBoundary E = (N : JobNumbers) → Accepted E (book_of E N) →
    (f g : Frontier) → Move N f g → Conserved E N f → Conserved E N g

-- After any moves from the start the frontier's nodes are the job's, and the boundary is conserved.
abbrev pub TraversalConservesTheBoundary : Cyclotomic → Type 0
TraversalConservesTheBoundary E = (N : JobNumbers) → Accepted E (book_of E N) →
    (f : Frontier) → Reached N f → OfTheJob N f × Conserved E N f

-- Another placement in a laid node's stead conserves the boundary only where its outline has the net counts of the node's.
abbrev pub OnlyTheRightOutlineConserves : Cyclotomic → Type 0
OnlyTheRightOutlineConserves E = (N : JobNumbers) → Accepted E (book_of E N) →
    (f : Frontier) → Reached N f → (before after : List Address) (a : Address) → f.laid ≡ before ++ a ∷ after → (q : Placement E) →
    ((y : Edge E) → net E (book_of E N) (outlines E (book_of E N) (map (node_placement E N) before ++ q ∷ map (node_placement E N) after)) y
    +ℤ net E (book_of E N) (lacking_outlines E N f) y ≡ net E (book_of E N) (seed_outlines E N) y) →
    SameNet E (book_of E N) (placed_outline E (book_of E N) q) (node_outline E N a)

-- Every reading is conserved too: what is laid and what is lacking read together as the inflated seed reads.
abbrev pub TraversalConservesReadings : Cyclotomic → AbelianGroup → Type 0
TraversalConservesReadings E G = (N : JobNumbers) → Accepted E (book_of E N) →
    (r : Edge E → G.Val) → ReadsEdges E (book_of E N) G r →
    (f : Frontier) → Reached N f →
    G.sum (reading G r (laid_outlines E N f)) (reading G r (lacking_outlines E N f)) ≡ reading G r (seed_outlines E N)

-- A node is a seed tile or, down to the depth, a child of a node; it lies where the seed tile or the parent's child lies. There is no other.
pub record NodesAreSeedsAndChildren (E : Cyclotomic) (N : JobNumbers) : Type 0 where
  pub seed_lies : (i : ℕ) (d : Placement E) → i < length (seeds_of E N) → placement_at E N (seed_address i) ≡ Some (slice_index_or (seeds_of E N) i d)
  pub child_lies : (a : Address) (p : Placement E) (i : ℕ) (d : Placement E) → placement_at E N a ≡ Some p → level a < N.depth → i < length (children_of E (book_of E N) p) →
      placement_at E N (child_address a i) ≡ Some (slice_index_or (children_of E (book_of E N) p) i d)
  pub no_seed : (i : ℕ) → length (seeds_of E N) ≤ i → placement_at E N (seed_address i) ≡ None
  pub no_deeper : (a : Address) (i : ℕ) → N.depth ≤ level a → placement_at E N (child_address a i) ≡ None
  pub no_orphan : (a : Address) (i : ℕ) → placement_at E N a ≡ None → placement_at E N (child_address a i) ≡ None
  pub no_child : (a : Address) (p : Placement E) (i : ℕ) → placement_at E N a ≡ Some p → length (children_of E (book_of E N) p) ≤ i → placement_at E N (child_address a i) ≡ None

abbrev pub NodesAreSeedsAndChildrenInEveryJob : Cyclotomic → Type 0
NodesAreSeedsAndChildrenInEveryJob E = (N : JobNumbers) → NodesAreSeedsAndChildren E N

-- The cursor advances from a node to the next child of the same parent, else as from the parent, and from a seed tile to the next one.
-- What is pending follows it: all seed tiles at the start; after advancing, what was behind; after going down to the first child,
-- where there is one, all the children in their parent's place.
pub record PendingFollowsTheCursor (N : JobNumbers) : Type 0 where
  pub from_a_child : (a : Address) (i : ℕ) → advance N (child_address a i) ≡ cond (nat_lt (i + 1) (child_count N (node_tile N a))) (Some (child_address a (i + 1))) (advance N a)
  pub from_a_seed : (i : ℕ) → advance N (seed_address i) ≡ seed_on N (i + 1)
  pub starting : pending N (seed_on N 0) ≡ seeds_from N 0
  pub advancing : (a : Address) → pending N (advance N a) ≡ behind N a
  pub descending : (a : Address) → 0 < child_count N (node_tile N a) → pending N (Some (child_address a 0)) ≡ children_from N a 0 ++ behind N a

abbrev pub PendingFollowsTheCursorInEveryJob : Type 0
PendingFollowsTheCursorInEveryJob = (N : JobNumbers) → PendingFollowsTheCursor N
