-- A job's numbers and the book made of them; nodes, their tiles and their placements.
use Rattle.std.proofs.Common.{◌≡◌, ℕ, zero, suc, ◌+◌, ◌-◌, ◌<◌, ◌≤◌, Bool, true, false, cond, ◌&&◌, ltb, leb, List, [], ◌∷◌, ◌++◌, map, length, get_or, Some, None, sym, refl, ap, ◌∙◌, arith, length-append, ltb-true, lt-ltb, le-leb, leb-true}
use mathlib.Core.Bool.{and-eq-true_iff}
use lib.ListN.{length-map, get_or-eq_default}
use Rattle.std.specs.List.{range_with_len, AllByRecursion}
use Rattle.exact.specs.Cyclotomic.{Cyclotomic}
use Rattle.exact.specs.JobNumbers.{LabelNumbers, JobNumbers}
use Rattle.chains.specs.Books.{Placement, placement_of, label_of, tile_of, label_at, tile_at, book_of, seeds_of}
use Rattle.chains.specs.Placements.{child_of, children_of}
use Rattle.chains.specs.Addresses.{Address, level, seed_address, child_address, no_entry, child_entries, child_count, child_tile, seed_tile, tile_below, leads_down, node_tile, has_node, seeds_from, children_from, child_placement, placement_below, seed_placement, node_placement, placement_at}
use Rattle.chains.specs.Theorems.{NodesAreSeedsAndChildren}
use Rattle.std.proofs.Math.ListN.{get_or-map}
use Rattle.std.proofs.lemmas.Simd.{map-map}
use Rattle.chains.proofs.Lists.{all_map}

-- an element that is there, whatever the default
getD_map_there : {A B : Type 0} (f : A → B) (xs : List A) (i : ℕ) (d : B) (e : A) → i < length xs → get_or (map f xs) i d ≡ f (get_or xs i e)
getD_map_there f [] i d e h = absurd (omega arith)
getD_map_there f (x ∷ xs) zero d e h = refl
getD_map_there f (x ∷ xs) (suc i) d e h = getD_map_there f xs i d e (omega arith)

-- what holds of all numbers from a on, below a + n
all_counting : (P : ℕ → Type 0) (a n : ℕ) → ((i : ℕ) → i < a + n → P i) → AllByRecursion P (range_with_len a n)
all_counting P a zero h = tt
all_counting P a (suc n) h = (h a (omega arith), all_counting P (a + 1) n (λ i l. h i (omega arith)))

module _ (N : JobNumbers) where
  pub tile_below_child : (t : ℕ) (path : List ℕ) (i : ℕ) → tile_below N t (path ++ i ∷ []) ≡ child_tile N (tile_below N t path) i
  unfolding tile_below
  tile_below_child t [] i = refl
  tile_below_child t (j ∷ path) i = tile_below_child (child_tile N t j) path i

  pub node_tile_child : (a : Address) (i : ℕ) → node_tile N (child_address a i) ≡ child_tile N (node_tile N a) i
  unfolding node_tile
  node_tile_child a i = tile_below_child _ a.path i

  leads_child_only : (t : ℕ) (path : List ℕ) (i : ℕ) → leads_down N t (path ++ i ∷ []) ≡ true → (leads_down N t path ≡ true) × (i < child_count N (tile_below N t path))
  unfolding leads_down tile_below
  leads_child_only t [] i h = (refl, ltb-true _ _ ((and-eq-true_iff (ltb i (child_count N t)) true).0 h).0)
  leads_child_only t (j ∷ path) i h =
      let p = (and-eq-true_iff (ltb j (child_count N t)) (leads_down N (child_tile N t j) (path ++ i ∷ []))).0 h in
      let q = leads_child_only (child_tile N t j) path i p.1 in
      ((and-eq-true_iff _ _).1 (p.0, q.0), q.1)

  -- only a node above the depth has children, and no more than its tile has
  pub has_child_only : (a : Address) (i : ℕ) → has_node N (child_address a i) ≡ true → (has_node N a ≡ true) × (level a < N.depth) × (i < child_count N (node_tile N a))
  unfolding has_node node_tile
  has_child_only a i h =
      let p = (and-eq-true_iff (leb (length (a.path ++ i ∷ [])) N.depth && ltb a.seed (length N.seeds)) (leads_down N (seed_tile N a.seed) (a.path ++ i ∷ []))).0 h in
      let q = (and-eq-true_iff (leb (length (a.path ++ i ∷ [])) N.depth) (ltb a.seed (length N.seeds))).0 p.0 in
      let r = leads_child_only (seed_tile N a.seed) a.path i p.1 in
      let deep : length (a.path ++ i ∷ []) ≤ N.depth = leb-true _ _ q.0 in
      let high : length a.path < N.depth = omega (arith, length-append a.path (i ∷ [])) in
      ((and-eq-true_iff _ _).1 ((and-eq-true_iff _ _).1 (le-leb _ _ (omega arith), q.1), r.0), high, r.1)

  leads_child : (t : ℕ) (path : List ℕ) (i : ℕ) → leads_down N t path ≡ true → i < child_count N (tile_below N t path) → leads_down N t (path ++ i ∷ []) ≡ true
  unfolding leads_down tile_below
  leads_child t [] i h l = ap (λ b. b && true) (lt-ltb _ _ l)
  leads_child t (j ∷ path) i h l = let p = (and-eq-true_iff _ _).0 h in (and-eq-true_iff _ _).1 (p.0, leads_child (child_tile N t j) path i p.1 l)

  pub has_child : (a : Address) (i : ℕ) → has_node N a ≡ true → level a < N.depth → i < child_count N (node_tile N a) → has_node N (child_address a i) ≡ true
  unfolding has_node node_tile
  has_child a i h below l =
      let deep : length (a.path ++ i ∷ []) ≤ N.depth = omega (arith, length-append a.path (i ∷ [])) in
      let p = (and-eq-true_iff _ _).0 h in
      let q = (and-eq-true_iff _ _).0 p.0 in
      (and-eq-true_iff _ _).1 ((and-eq-true_iff _ _).1 (le-leb _ _ deep, q.1), leads_child _ a.path i p.1 l)

  pub has_seed_only : (i : ℕ) → has_node N (seed_address i) ≡ true → i < length N.seeds
  unfolding has_node leads_down
  has_seed_only i h = ltb-true _ _ ((and-eq-true_iff (leb 0 N.depth) (ltb i (length N.seeds))).0 ((and-eq-true_iff (leb 0 N.depth && ltb i (length N.seeds)) true).0 h).0).1

  pub has_seed : (i : ℕ) → i < length N.seeds → has_node N (seed_address i) ≡ true
  unfolding has_node leads_down
  has_seed i l = (and-eq-true_iff _ _).1 ((and-eq-true_iff _ _).1 (le-leb _ _ (omega arith), lt-ltb _ _ l), refl)

  pub has_seeds : AllByRecursion (λ a. has_node N a ≡ true) (seeds_from N 0)
  unfolding seeds_from
  has_seeds = all_map _ seed_address (range_with_len 0 (length N.seeds - 0)) (all_counting _ 0 (length N.seeds - 0) (λ i l. has_seed i (omega arith)))

  pub has_children : (a : Address) → has_node N a ≡ true → level a < N.depth → AllByRecursion (λ b. has_node N b ≡ true) (children_from N a 0)
  unfolding children_from
  has_children a h below = all_map _ (child_address a) (range_with_len 0 (child_count N (node_tile N a) - 0)) (all_counting _ 0 (child_count N (node_tile N a) - 0) (λ i l. has_child a i h below (omega arith)))

module _ (E : Cyclotomic) (N : JobNumbers) where
  -- a tile's children in the book are those of the job's numbers
  pub book_children : (t : ℕ) → (tile_at (book_of E N) t).children ≡ map (placement_of E) (child_entries N t)
  unfolding book_of
  book_children t = ap (λ u. u.children) (get_or-map (tile_of E) N.tiles t (record { outline = []; children = [] }))

  pub book_outline : (t : ℕ) → (tile_at (book_of E N) t).outline ≡ (get_or N.tiles t (record { outline = []; children = [] })).outline
  unfolding book_of
  book_outline t = ap (λ u. u.outline) (get_or-map (tile_of E) N.tiles t (record { outline = []; children = [] }))

  pub book_label : (e : ℕ) (d : LabelNumbers) → e < length N.labels → label_at (book_of E N) e ≡ label_of E (get_or N.labels e d)
  unfolding book_of
  book_label e d h = getD_map_there (label_of E) N.labels e _ d h

  pub no_book_label : (e : ℕ) → length N.labels ≤ e → label_at (book_of E N) e ≡ record { arrowed = false; length = E.zero; subdivision = [] }
  unfolding book_of
  no_book_label e h = get_or-eq_default (map (label_of E) N.labels) _ (omega (arith, length-map N.labels (label_of E)))

  pub labels_counted : length (book_of E N).labels ≡ length N.labels
  unfolding book_of
  labels_counted = length-map N.labels (label_of E)

  pub tiles_counted : length (book_of E N).tiles ≡ length N.tiles
  unfolding book_of
  tiles_counted = length-map N.tiles (tile_of E)

  pub children_by_entries : (p : Placement E) → children_of E (book_of E N) p ≡ map (λ x. child_of E (book_of E N) p (placement_of E x)) (child_entries N p.tile)
  unfolding children_of
  children_by_entries p = ap (map (child_of E (book_of E N) p)) (book_children p.tile) ∙ map-map _ (placement_of E) (child_entries N p.tile)

  child_placement_tile : (p : Placement E) (i : ℕ) → (child_placement E N p i).tile ≡ child_tile N p.tile i
  unfolding child_placement child_of child_tile
  child_placement_tile p i = refl

  pub placement_below_tile : (p : Placement E) (path : List ℕ) → (placement_below E N p path).tile ≡ tile_below N p.tile path
  unfolding placement_below tile_below
  placement_below_tile p [] = refl
  placement_below_tile p (i ∷ path) = placement_below_tile (child_placement E N p i) path ∙ ap (λ t. tile_below N t path) (child_placement_tile p i)

  -- a node's placement is of the node's tile
  pub node_placement_tile : (a : Address) → (node_placement E N a).tile ≡ node_tile N a
  unfolding node_placement node_tile seed_placement seed_tile
  node_placement_tile a = placement_below_tile _ a.path

  placement_below_child : (p : Placement E) (path : List ℕ) (i : ℕ) → placement_below E N p (path ++ i ∷ []) ≡ child_placement E N (placement_below E N p path) i
  unfolding placement_below
  placement_below_child p [] i = refl
  placement_below_child p (j ∷ path) i = placement_below_child (child_placement E N p j) path i

  -- a child node lies where its parent's child lies
  pub node_placement_child : (a : Address) (i : ℕ) → node_placement E N (child_address a i) ≡ child_placement E N (node_placement E N a) i
  unfolding node_placement
  node_placement_child a i = placement_below_child _ a.path i

  -- ---- placements at addresses
  placed_there : (a : Address) → has_node N a ≡ true → placement_at E N a ≡ Some (node_placement E N a)
  unfolding placement_at
  placed_there a h = ap (λ b. cond b (Some (node_placement E N a)) None) h

  placed_nowhere : (a : Address) → (has_node N a ≡ true → ⊥) → placement_at E N a ≡ None
  unfolding placement_at
  placed_nowhere a h = go (has_node N a) h
    where
      go : (b : Bool) → (b ≡ true → ⊥) → cond b (Some (node_placement E N a)) None ≡ None
      go true k = absurd (k refl)
      go false k = refl

  there_placed : (a : Address) (p : Placement E) → placement_at E N a ≡ Some p → (has_node N a ≡ true) × (node_placement E N a ≡ p)
  unfolding placement_at
  there_placed a p h = go (has_node N a) h
    where
      go : (b : Bool) → cond b (Some (node_placement E N a)) None ≡ Some p → (b ≡ true) × (node_placement E N a ≡ p)
      go true k = (refl, cc)
      go false k = let z : ◌≡◌ {A = ℕ} 0 1 = cc in absurd (omega arith)

  nowhere_placed : (a : Address) → placement_at E N a ≡ None → has_node N a ≡ true → ⊥
  nowhere_placed a h k = let e = placed_there a k in let z : ◌≡◌ {A = ℕ} 0 1 = cc in omega arith

  children_counted : (p : Placement E) → length (children_of E (book_of E N) p) ≡ child_count N p.tile
  unfolding child_count
  children_counted p = ap length (children_by_entries p) ∙ length-map (child_entries N p.tile) _

  child_at : (p : Placement E) (i : ℕ) (d : Placement E) → i < length (child_entries N p.tile) → get_or (children_of E (book_of E N) p) i d ≡ child_placement E N p i
  unfolding child_placement
  child_at p i d h = ap (λ ps. get_or ps i d) (children_by_entries p) ∙ getD_map_there _ (child_entries N p.tile) i d no_entry h

  few : (p : Placement E) (a : Address) (i : ℕ) → node_placement E N a ≡ p → child_count N p.tile ≡ child_count N (node_tile N a)
  few p a i e = ap (λ q. child_count N q.tile) (sym e) ∙ ap (child_count N) (node_placement_tile a)

  in_entries : (p : Placement E) (i : ℕ) → i < child_count N p.tile → i < length (child_entries N p.tile)
  unfolding child_count
  in_entries p i h = h

  child_lies : (a : Address) (p : Placement E) (i : ℕ) (d : Placement E) → placement_at E N a ≡ Some p → level a < N.depth → i < length (children_of E (book_of E N) p) →
      placement_at E N (child_address a i) ≡ Some (get_or (children_of E (book_of E N) p) i d)
  child_lies a p i d h below l =
      let x = there_placed a p h in
      let m : i < child_count N p.tile = omega (arith, children_counted p) in
      placed_there (child_address a i) (has_child N a i x.0 below (omega (arith, few p a i x.1)))
      ∙ ap Some (node_placement_child a i ∙ ap (λ q. child_placement E N q i) x.1 ∙ sym (child_at p i d (in_entries p i m)))

  seed_lies : (i : ℕ) (d : Placement E) → i < length (seeds_of E N) → placement_at E N (seed_address i) ≡ Some (get_or (seeds_of E N) i d)
  unfolding seeds_of node_placement placement_below seed_placement
  seed_lies i d h =
      let l : i < length N.seeds = omega (arith, length-map N.seeds (placement_of E)) in
      placed_there (seed_address i) (has_seed N i l) ∙ ap Some (sym (getD_map_there (placement_of E) N.seeds i d no_entry l))

  no_seed : (i : ℕ) → length (seeds_of E N) ≤ i → placement_at E N (seed_address i) ≡ None
  unfolding seeds_of
  no_seed i h = placed_nowhere (seed_address i) (λ k. let l = has_seed_only N i k in omega (arith, length-map N.seeds (placement_of E)))

  pub seeds_and_children : NodesAreSeedsAndChildren E N
  seeds_and_children = record {
    seed_lies = seed_lies;
    child_lies = child_lies;
    no_seed = no_seed;
    no_deeper = λ a i h. placed_nowhere (child_address a i) (λ k. let x = has_child_only N a i k in omega (arith, x.1));
    no_orphan = λ a i h. placed_nowhere (child_address a i) (λ k. nowhere_placed a h (has_child_only N a i k).0);
    no_child = λ a p i h l. placed_nowhere (child_address a i) (λ k. let x = there_placed a p h in omega (arith, (has_child_only N a i k).2, children_counted p, few p a i x.1));
  }
