-- The child numbers of an address, one after another.
use Rattle.std.proofs.Common.{◌≡◌, ℕ, ◌+◌, ◌<◌, ◌≤◌, true, false, ◌&&◌, List, [], ◌∷◌, length, get_or, drop, sym, ap, ◌∙◌, ap₂, ltb-true, le-ltb, lt-ltb, le-leb}
use Rattle.std.proofs.lemmas.List.{at_drop_more, at_drop_all}
use Rattle.std.proofs.lemmas.Bool.{lt-leb, and_left, and_right, and_parts}
use Rattle.exact.specs.JobNumbers.{PlacedNumbers, JobNumbers}
use Rattle.chains.specs.Addresses.{Address, has_node, seed_tile, child_entries, child_count, child_tile, no_entry, leads_down}

-- a loop over child numbers: the next of them, or none left
module _ (path : List ℕ) (i : ℕ) where
  pub next_child : (k : ℕ) → i < length path → k ≡ get_or path i 0 → drop i path ≡ k ∷ drop (i + 1) path
  next_child k h e = at_drop_more (λ l. l) path i 0 h ∙ ap (λ n. n ∷ drop (i + 1) path) (sym e)

  pub no_child_left : length path ≤ i → drop i path ≡ []
  no_child_left h = at_drop_all (λ l. l) path i h

module _ (N : JobNumbers) (t k : ℕ) (path : List ℕ) where
  -- on to the child
  pub leads_on : (x : PlacedNumbers) → k < length (child_entries N t) → get_or (child_entries N t) k no_entry ≡ x → leads_down N t (k ∷ path) ≡ leads_down N x.tile path
  unfolding leads_down child_count child_tile
  leads_on x h e = ap (λ b. b && leads_down N (child_tile N t k) path) (lt-ltb _ _ h) ∙ ap (λ (y : PlacedNumbers). leads_down N y.tile path) e

  pub leads_nowhere : length (child_entries N t) ≤ k → leads_down N t (k ∷ path) ≡ false
  unfolding leads_down child_count
  leads_nowhere h = ap (λ b. b && leads_down N (child_tile N t k) path) (le-ltb _ _ h)

-- an address by its seed tile and its child numbers
module _ (N : JobNumbers) (s : ℕ) (path : List ℕ) where
  abbrev there : Address
  there = record { seed = s; path = path }

  pub too_deep : N.depth < length path → has_node N there ≡ false
  unfolding has_node
  too_deep h = and_left _ _ (and_left _ _ (lt-leb _ _ h))

  pub no_seed : length N.seeds ≤ s → has_node N there ≡ false
  unfolding has_node
  no_seed h = and_left _ _ (and_right _ _ (le-ltb _ _ h))

  pub by_path : (x : PlacedNumbers) → length path ≤ N.depth → s < length N.seeds → get_or N.seeds s no_entry ≡ x → has_node N there ≡ leads_down N x.tile path
  unfolding has_node seed_tile
  by_path x d h e =
      ap₂ (λ a b. a && b && leads_down N (seed_tile N s) path) (le-leb _ _ d) (lt-ltb _ _ h)
      ∙ ap (λ (y : PlacedNumbers). leads_down N y.tile path) e

  -- a node's seed tile is there, and the path leads down from it
  pub node_seed : has_node N there ≡ true → (s < length N.seeds) × (leads_down N (seed_tile N s) path ≡ true)
  unfolding has_node
  node_seed h = let a = and_parts _ _ h in (ltb-true _ _ (and_parts _ _ a.0).1, a.1)
