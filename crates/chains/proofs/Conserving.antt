-- Every move conserves the boundary.
use Rattle.std.proofs.Common.{◌≡◌, ℕ, zero, suc, ◌-◌, ◌<◌, true, List, [], ◌∷◌, ◌++◌, map, length, get_or, ℤ, pos, ◌+ℤ◌, sym, refl, ap, ◌∙◌, ap₂, append_assoc, arith, length-append}
use mathlib.Core.List.{flat_map, map-append}
use lib.IntN.{+ℤ_idl}
use Rattle.std.specs.List.{range_with_len}
use Rattle.std.proofs.lemmas.Int.{ints}
use Rattle.exact.specs.Cyclotomic.{Cyclotomic, CyclotomicLaws}
use Rattle.exact.specs.Groups.{AbelianGroup, AbelianLaws}
use Rattle.exact.specs.JobNumbers.{PlacedNumbers, JobNumbers}
use Rattle.chains.specs.Counts.{scaled, reading}
use Rattle.chains.specs.Books.{Book, Placement, placement_of, book_of, seeds_of}
use Rattle.chains.specs.Edges.{Edge, Chain, net, SameNet, ReadsEdges}
use Rattle.chains.specs.Inflation.{subdivided, inflate, inflated}
use Rattle.chains.specs.Placements.{child_of, children_of, placed_outline, outlines}
use Rattle.chains.specs.Accepted.{Accepted}
use Rattle.chains.specs.Addresses.{Address, level, seed_address, child_address, no_entry, child_entries, child_count, node_tile, has_node, seeds_from, children_from, child_placement, placement_below, seed_placement, node_placement}
use Rattle.chains.specs.Frontiers.{Frontier, start, Move, expand, lay, set_aside, Reached, at_start, then, OfTheJob, node_outline, grown_outline, laid_outlines, lacking_outlines, seed_outlines, Conserved}
use Rattle.chains.proofs.Lists.{flatMap_append, flatMap_map, flatMap_same, by_places, all_append, all_front, all_back}
use Rattle.chains.proofs.Edges as edges
use Rattle.chains.proofs.Tallies as tallies
use Rattle.chains.proofs.Balancing as balancing
use Rattle.chains.proofs.Nodes as nodes

-- inflation goes edge by edge
module _ (E : Cyclotomic) (B : Book E) where
  inflate_append : (xs ys : Chain E) → inflate E B (xs ++ ys) ≡ inflate E B xs ++ inflate E B ys
  unfolding inflate
  inflate_append [] ys = refl
  inflate_append (x ∷ xs) ys = ap₂ ◌++◌ refl (inflate_append xs ys) ∙ sym (append_assoc (scaled x.count (subdivided E B x.what)) _ _)

  inflated_append : (k : ℕ) (xs ys : Chain E) → inflated E B k (xs ++ ys) ≡ inflated E B k xs ++ inflated E B k ys
  unfolding inflated
  inflated_append zero xs ys = refl
  inflated_append (suc k) xs ys = ap (inflated E B k) (inflate_append xs ys) ∙ inflated_append k _ _

  inflated_none : (k : ℕ) → inflated E B k [] ≡ []
  unfolding inflated inflate
  inflated_none zero = refl
  inflated_none (suc k) = inflated_none k

  pub inflated_outlines : (k : ℕ) (ps : List (Placement E)) → flat_map (λ p. inflated E B k (placed_outline E B p)) ps ≡ inflated E B k (outlines E B ps)
  unfolding flat_map outlines
  inflated_outlines k [] = sym (inflated_none k)
  inflated_outlines k (p ∷ ps) = ap₂ ◌++◌ refl (inflated_outlines k ps) ∙ sym (inflated_append k (placed_outline E B p) (outlines E B ps))

module _ (E : Cyclotomic) (L : CyclotomicLaws E) (N : JobNumbers) where
  -- what the seed tiles come to is the seed's outline inflated to the depth
  seeds_grown : flat_map (grown_outline E N) (seeds_from N 0) ≡ seed_outlines E N
  unfolding seeds_from seed_outlines grown_outline node_outline node_placement seed_placement placement_below seeds_of
  seeds_grown =
      flatMap_map _ seed_address (range_with_len 0 (length N.seeds - 0))
      ∙ ap₂ (λ k m. flat_map (λ i. inflated E (book_of E N) k (placed_outline E (book_of E N) (placement_of E (get_or N.seeds i no_entry)))) (range_with_len 0 m)) (omega arith) (omega arith)
      ∙ by_places (λ x. inflated E (book_of E N) N.depth (placed_outline E (book_of E N) (placement_of E x))) N.seeds no_entry
      ∙ sym (flatMap_map (λ p. inflated E (book_of E N) N.depth (placed_outline E (book_of E N) p)) (placement_of E) N.seeds)
      ∙ inflated_outlines E (book_of E N) N.depth (map (placement_of E) N.seeds)

  child_grown : (a : Address) (k i : ℕ) → N.depth - level a ≡ suc k →
      grown_outline E N (child_address a i) ≡ inflated E (book_of E N) k (placed_outline E (book_of E N) (child_placement E N (node_placement E N a) i))
  unfolding grown_outline node_outline
  child_grown a k i h = ap₂ (λ m p. inflated E (book_of E N) m (placed_outline E (book_of E N) p)) e (nodes.node_placement_child E N a i)
    where
      e : N.depth - length (a.path ++ i ∷ []) ≡ k
      e = omega (arith, length-append a.path (i ∷ []))

  own_grown : (a : Address) (k : ℕ) → N.depth - level a ≡ suc k → grown_outline E N a ≡ inflated E (book_of E N) k (inflate E (book_of E N) (placed_outline E (book_of E N) (node_placement E N a)))
  unfolding grown_outline node_outline inflated
  own_grown a k e = ap (λ m. inflated E (book_of E N) m (placed_outline E (book_of E N) (node_placement E N a))) e

  laid_grown : (a : Address) → level a ≡ N.depth → grown_outline E N a ≡ node_outline E N a
  unfolding grown_outline inflated
  laid_grown a h = ap (λ m. inflated E (book_of E N) m (node_outline E N a)) e
    where
      e : N.depth - level a ≡ 0
      e = omega arith

  -- a node's children, each inflated by what it lacks, as the children of the node's placement
  children_grown : (a : Address) (k : ℕ) → N.depth - level a ≡ suc k →
      flat_map (grown_outline E N) (children_from N a 0) ≡ inflated E (book_of E N) k (outlines E (book_of E N) (children_of E (book_of E N) (node_placement E N a)))
  unfolding children_from child_count child_placement
  children_grown a k e =
      flatMap_map _ (child_address a) (range_with_len 0 (length (child_entries N (node_tile N a)) - 0))
      ∙ ap (λ m. flat_map (λ i. grown_outline E N (child_address a i)) (range_with_len 0 m)) less
      ∙ flatMap_same _ (λ i. grows (get_or (child_entries N (node_placement E N a).tile) i no_entry)) (λ i. child_grown a k i e) (range_with_len 0 (length (child_entries N (node_placement E N a).tile)))
      ∙ by_places grows (child_entries N (node_placement E N a).tile) no_entry
      ∙ sym (flatMap_map (λ p. inflated E (book_of E N) k (placed_outline E (book_of E N) p)) (λ x. child_of E (book_of E N) (node_placement E N a) (placement_of E x)) (child_entries N (node_placement E N a).tile))
      ∙ ap (flat_map (λ p. inflated E (book_of E N) k (placed_outline E (book_of E N) p))) (sym (nodes.children_by_entries E N (node_placement E N a)))
      ∙ inflated_outlines E (book_of E N) k (children_of E (book_of E N) (node_placement E N a))
    where
      grows : PlacedNumbers → Chain E
      grows x = inflated E (book_of E N) k (placed_outline E (book_of E N) (child_of E (book_of E N) (node_placement E N a) (placement_of E x)))

      less : length (child_entries N (node_tile N a)) - 0 ≡ length (child_entries N (node_placement E N a).tile)
      less = let e : length (child_entries N (node_tile N a)) - 0 ≡ length (child_entries N (node_tile N a)) = omega arith in
          e ∙ ap (λ t. length (child_entries N t)) (sym (nodes.node_placement_tile E N a))

  -- the laid outlines, by the laid nodes' placements
  pub laid_by_placements : (f : Frontier) → laid_outlines E N f ≡ outlines E (book_of E N) (map (node_placement E N) f.laid)
  unfolding laid_outlines node_outline outlines
  laid_by_placements f = sym (flatMap_map (placed_outline E (book_of E N)) (node_placement E N) f.laid)

  module _ (A : Accepted E (book_of E N)) where
    -- a node's children come to the same net counts as the node
    family : (a : Address) → level a < N.depth → SameNet E (book_of E N) (flat_map (grown_outline E N) (children_from N a 0)) (grown_outline E N a)
    family a h = go (N.depth - level a - 1) (omega arith)
      where
        go : (k : ℕ) → N.depth - level a ≡ suc k → SameNet E (book_of E N) (flat_map (grown_outline E N) (children_from N a 0)) (grown_outline E N a)
        go k e y = ap (λ c. net E (book_of E N) c y) (children_grown a k e)
            ∙ balancing.inflated_keeps E L (book_of E N) A k _ _ (balancing.family_balances E L (book_of E N) A (node_placement E N a)) y
            ∙ ap (λ c. net E (book_of E N) c y) (sym (own_grown a k e))

    -- the net count of an edge over what some nodes come to
    weighs : (Address → Chain E) → List Address → Edge E → ℤ
    weighs f xs y = net E (book_of E N) (flat_map f xs) y

    weighs_append : (f : Address → Chain E) (xs ys : List Address) (y : Edge E) → weighs f (xs ++ ys) y ≡ weighs f xs y +ℤ weighs f ys y
    unfolding weighs
    weighs_append f xs ys y = ap (λ c. net E (book_of E N) c y) (flatMap_append f xs ys) ∙ edges.net_append E L (book_of E N) (flat_map f xs) (flat_map f ys) y

    weighs_cons : (f : Address → Chain E) (x : Address) (xs : List Address) (y : Edge E) → weighs f (x ∷ xs) y ≡ net E (book_of E N) (f x) y +ℤ weighs f xs y
    unfolding weighs flat_map
    weighs_cons f x xs y = edges.net_append E L (book_of E N) (f x) (flat_map f xs) y

    weighs_none : (f : Address → Chain E) (y : Edge E) → weighs f [] y ≡ pos 0
    unfolding weighs flat_map
    weighs_none f y = edges.net_none E L (book_of E N) y

    weighs_family : (a : Address) (y : Edge E) → level a < N.depth → weighs (grown_outline E N) (children_from N a 0) y ≡ net E (book_of E N) (grown_outline E N a) y
    unfolding weighs
    weighs_family a y h = family a h y

    -- laid and lacking together
    whole : Frontier → Edge E → ℤ
    whole f y = weighs (node_outline E N) f.laid y +ℤ weighs (grown_outline E N) (f.aside ++ f.pending) y

    -- a move leaves the sum
    unmoved : (f g : Frontier) → Move N f g → (y : Edge E) → whole g y ≡ whole f y
    unfolding whole
    unmoved _ _ (expand ls ss before after a below) y = omega (
      arith,
      ints,
      weighs_append (grown_outline E N) ss (before ++ (children_from N a 0 ++ after)) y,
      weighs_append (grown_outline E N) before (children_from N a 0 ++ after) y,
      weighs_append (grown_outline E N) (children_from N a 0) after y,
      weighs_family a y below,
      weighs_append (grown_outline E N) ss (before ++ a ∷ after) y,
      weighs_append (grown_outline E N) before (a ∷ after) y,
      weighs_cons (grown_outline E N) a after y,
    )
    unmoved _ _ (lay ls ss before after a at) y = omega (
      arith,
      ints,
      weighs_append (node_outline E N) ls (a ∷ []) y,
      weighs_cons (node_outline E N) a [] y,
      weighs_none (node_outline E N) y,
      weighs_append (grown_outline E N) ss (before ++ after) y,
      weighs_append (grown_outline E N) before after y,
      weighs_append (grown_outline E N) ss (before ++ a ∷ after) y,
      weighs_append (grown_outline E N) before (a ∷ after) y,
      weighs_cons (grown_outline E N) a after y,
      ap (λ c. net E (book_of E N) c y) (laid_grown a at),
    )
    unmoved _ _ (set_aside ls ss before after a) y = omega (
      arith,
      ints,
      weighs_append (grown_outline E N) (ss ++ a ∷ []) (before ++ after) y,
      weighs_append (grown_outline E N) ss (a ∷ []) y,
      weighs_cons (grown_outline E N) a [] y,
      weighs_none (grown_outline E N) y,
      weighs_append (grown_outline E N) before after y,
      weighs_append (grown_outline E N) ss (before ++ a ∷ after) y,
      weighs_append (grown_outline E N) before (a ∷ after) y,
      weighs_cons (grown_outline E N) a after y,
    )

    pub moves_conserve : (f g : Frontier) → Move N f g → Conserved E N f → Conserved E N g
    unfolding laid_outlines lacking_outlines weighs whole
    moves_conserve f g m h y = unmoved f g m y ∙ h y

    start_conserves : Conserved E N (start N)
    unfolding laid_outlines lacking_outlines flat_map
    start_conserves y = ap (λ z. z +ℤ net E (book_of E N) (flat_map (grown_outline E N) (seeds_from N 0)) y) (edges.net_none E L (book_of E N) y)
        ∙ +ℤ_idl (net E (book_of E N) (flat_map (grown_outline E N) (seeds_from N 0)) y)
        ∙ ap (λ c. net E (book_of E N) c y) seeds_grown

    pub reached_conserves : (f : Frontier) → Reached N f → Conserved E N f
    reached_conserves _ at_start = start_conserves
    reached_conserves _ (then f g r m) = moves_conserve f g m (reached_conserves f r)

    -- the outlines of some placements, one of them apart
    outlines_net : (ps qs : List (Placement E)) (q : Placement E) (y : Edge E) → net E (book_of E N) (outlines E (book_of E N) (ps ++ q ∷ qs)) y
        ≡ net E (book_of E N) (outlines E (book_of E N) ps) y +ℤ (net E (book_of E N) (placed_outline E (book_of E N) q) y +ℤ net E (book_of E N) (outlines E (book_of E N) qs) y)
    unfolding outlines flat_map
    outlines_net ps qs q y = ap (λ c. net E (book_of E N) c y) (flatMap_append (placed_outline E (book_of E N)) ps (q ∷ qs))
        ∙ edges.net_append E L (book_of E N) (outlines E (book_of E N) ps) (placed_outline E (book_of E N) q ++ outlines E (book_of E N) qs) y
        ∙ ap (◌+ℤ◌ (net E (book_of E N) (outlines E (book_of E N) ps) y)) (edges.net_append E L (book_of E N) (placed_outline E (book_of E N) q) (outlines E (book_of E N) qs) y)

    pub only_right : (f : Frontier) → Reached N f → (before after : List Address) (a : Address) → f.laid ≡ before ++ a ∷ after → (q : Placement E) →
        ((y : Edge E) → net E (book_of E N) (outlines E (book_of E N) (map (node_placement E N) before ++ q ∷ map (node_placement E N) after)) y
        +ℤ net E (book_of E N) (lacking_outlines E N f) y ≡ net E (book_of E N) (seed_outlines E N) y) →
        SameNet E (book_of E N) (placed_outline E (book_of E N) q) (node_outline E N a)
    unfolding node_outline
    only_right f run before after a e q h y = omega (
      arith,
      ints,
      h y,
      outlines_net (map (node_placement E N) before) (map (node_placement E N) after) q y,
      reached_conserves f run y,
      ap (λ c. net E (book_of E N) c y) (laid_by_placements f ∙ ap (λ xs. outlines E (book_of E N) (map (node_placement E N) xs)) e ∙ ap (outlines E (book_of E N)) (map-append (node_placement E N) before (a ∷ after))),
      outlines_net (map (node_placement E N) before) (map (node_placement E N) after) (node_placement E N a) y,
    )

    -- what is conserved at every edge is conserved in every reading
    pub readings_conserved : (G : AbelianGroup) → AbelianLaws G → (r : Edge E → G.Val) → ReadsEdges E (book_of E N) G r → (f : Frontier) → Reached N f →
        G.sum (reading G r (laid_outlines E N f)) (reading G r (lacking_outlines E N f)) ≡ reading G r (seed_outlines E N)
    readings_conserved G M r R f run =
        sym (tallies.reading_append G M r (laid_outlines E N f) (lacking_outlines E N f))
        ∙ edges.cancels E L (book_of E N) G M r R (laid_outlines E N f ++ lacking_outlines E N f) (seed_outlines E N)
        (λ y. edges.net_append E L (book_of E N) (laid_outlines E N f) (lacking_outlines E N f) y ∙ reached_conserves f run y)

    -- with nothing left, what is laid reads as the inflated seed
    pub finished_reads : (G : AbelianGroup) → AbelianLaws G → (r : Edge E → G.Val) → ReadsEdges E (book_of E N) G r → (f : Frontier) → Reached N f →
        f.aside ≡ [] → f.pending ≡ [] → reading G r (laid_outlines E N f) ≡ reading G r (seed_outlines E N)
    unfolding lacking_outlines flat_map reading
    finished_reads G M r R f run p q =
        sym (M.sum_zero _) ∙ ap₂ (λ xs ys. G.sum (reading G r (laid_outlines E N f)) (reading G r (flat_map (grown_outline E N) (xs ++ ys)))) (sym p) (sym q) ∙ readings_conserved G M r R f run

-- the nodes of a frontier remain the job's
module _ (N : JobNumbers) where
  there : Address → Type 0
  there a = has_node N a ≡ true

  pub still_of_the_job : (f g : Frontier) → Move N f g → OfTheJob N f → OfTheJob N g
  unfolding there
  still_of_the_job _ _ (expand ls ss before after a below) h =
      let front = all_front there before (a ∷ after) h.2 in
      let back = all_back there before (a ∷ after) h.2 in
      (h.0, h.1, all_append there before _ front (all_append there (children_from N a 0) after (nodes.has_children N a back.0 below) back.1))
  still_of_the_job _ _ (lay ls ss before after a at) h =
      let front = all_front there before (a ∷ after) h.2 in
      let back = all_back there before (a ∷ after) h.2 in
      (all_append there ls (a ∷ []) h.0 (back.0, tt), h.1, all_append there before after front back.1)
  still_of_the_job _ _ (set_aside ls ss before after a) h =
      let front = all_front there before (a ∷ after) h.2 in
      let back = all_back there before (a ∷ after) h.2 in
      (h.0, all_append there ss (a ∷ []) h.1 (back.0, tt), all_append there before after front back.1)

  pub reached_of_the_job : (f : Frontier) → Reached N f → OfTheJob N f
  reached_of_the_job _ at_start = (tt, tt, nodes.has_seeds N)
  reached_of_the_job _ (then f g r m) = still_of_the_job f g m (reached_of_the_job f r)
