-- A child's entry in the table follows from its parent's.
use Rattle.std.proofs.Common.{◌≡◌, ℕ, ◌<◌, Bool, true, false, cond, ◌&&◌, ltb, List, [], ◌∷◌, ◌++◌, get_or, sym, refl, ap, ◌∙◌, subst, ap₂, arith, ltb-false, ltb-true}
use Rattle.std.proofs.Math.Bool.{and_assoc, and-true}
use Rattle.std.proofs.lemmas.Bool.{and_parts, false_from_ne_true}
use Rattle.exact.specs.Cyclotomic.{Cyclotomic}
use Rattle.exact.specs.JobNumbers.{JobNumbers}
use Rattle.chains.specs.Books.{Placement, placement_of, book_of}
use Rattle.chains.specs.Addresses.{Address, level, child_address, has_node, child_count, child_entries, no_entry, child_placement, placement_below, seed_placement, node_placement}
use Rattle.chains.proofs.Nodes.{has_child, has_child_only, node_placement_tile, node_placement_child}
use Rattle.nodes.specs.OnPlane.{on_plane, kept_child, kept_corners}
use Rattle.nodes.specs.Table.{Entry, there, missing, outside, kept_below, kept_way, node_on_plane, table, child_entry, cornered}
use Rattle.nodes.proofs.Downward.{there_means, not_missing}

module _ (E : Cyclotomic) (N : JobNumbers) where
  abbrev kept : Placement E → ℕ → Bool
  kept p k = kept_child E (book_of E N) p (placement_of E (get_or (child_entries N p.tile) k no_entry))

  below_child : (p : Placement E) (path : List ℕ) (k : ℕ) → kept_below E N p (path ++ k ∷ []) ≡ (kept_below E N p path && kept (placement_below E N p path) k)
  unfolding kept_below placement_below
  below_child p [] k = and-true _
  below_child p (i ∷ path) k = ap (λ b. kept p i && b) (below_child (child_placement E N p i) path k)
      ∙ sym (and_assoc (kept p i) (kept_below E N (child_placement E N p i) path) (kept (placement_below E N (child_placement E N p i) path) k))

  way_child : (a : Address) (k : ℕ) → kept_way E N (child_address a k) ≡ (kept_way E N a && kept (node_placement E N a) k)
  unfolding kept_way node_placement
  way_child a k = ap (λ b. on_plane E (seed_placement E N a.seed).place && b) (below_child (seed_placement E N a.seed) a.path k)
      ∙ sym (and_assoc (on_plane E (seed_placement E N a.seed).place) (kept_below E N (seed_placement E N a.seed) a.path) (kept (node_placement E N a) k))

  -- an address whose node lies at p
  pub table_there : (a : Address) (p : Placement E) → table E N a ≡ there p → (has_node N a ≡ true) × (node_on_plane E N a ≡ true) × (p ≡ node_placement E N a)
  unfolding table
  table_there a p e = by (has_node N a) (node_on_plane E N a) refl refl e
    where
      by : (b c : Bool) → has_node N a ≡ b → node_on_plane E N a ≡ c → cond b (cond c (there (node_placement E N a)) outside) missing ≡ there p → (has_node N a ≡ true) × (node_on_plane E N a ≡ true) × (p ≡ node_placement E N a)
      by true c h k z = let m = there_means E p (node_placement E N a) c (sym z) in (h, k ∙ m.0, m.1)
      by false c h k z = absurd (not_missing E p z)

  module _ (a : Address) (k : ℕ) (high : level a < N.depth) (here : has_node N a ≡ true) (way : kept_way E N a ≡ true) where
    abbrev p : Placement E
    p = node_placement E N a

    abbrev whole : Bool → Bool → Entry E
    whole b w = cond b (cond (w && kept_corners E (book_of E N) (node_placement E N (child_address a k))) (there (node_placement E N (child_address a k))) outside) missing

    whole_is : (b w : Bool) → has_node N (child_address a k) ≡ b → kept_way E N (child_address a k) ≡ w → whole b w ≡ table E N (child_address a k)
    unfolding table node_on_plane
    whole_is b w h z = sym (ap₂ whole h z)

    step : (b c : Bool) → ltb k (child_count N p.tile) ≡ b → kept p k ≡ c → cornered E N (cond b (cond c (there (child_placement E N p k)) outside) missing) ≡ table E N (child_address a k)
    unfolding cornered
    step true true h z =
        let w = way_child a k ∙ ap₂ ◌&&◌ way z in
        ap (λ q. cond (kept_corners E (book_of E N) q) (there q) outside) (sym (node_placement_child E N a k))
        ∙ whole_is true true (has_child N a k here high (subst (λ t. k < child_count N t) (node_placement_tile E N a) (ltb-true _ _ h))) w
    step true false h z =
        let w = way_child a k ∙ ap₂ ◌&&◌ way z in
        whole_is true false (has_child N a k here high (subst (λ t. k < child_count N t) (node_placement_tile E N a) (ltb-true _ _ h))) w
    step false c h z =
        let no : has_node N (child_address a k) ≡ false = false_from_ne_true _ (λ y. let l = subst (λ t. k < child_count N t) (sym (node_placement_tile E N a)) (has_child_only N a k y).2 in let m = ltb-false _ _ h in omega arith) in
        whole_is false (kept_way E N (child_address a k)) no refl

    pub child_of_node : cornered E N (child_entry E N p k) ≡ table E N (child_address a k)
    unfolding child_entry
    child_of_node = step _ _ refl refl

  pub table_child : (a : Address) (p : Placement E) (k : ℕ) → level a < N.depth → table E N a ≡ there p → cornered E N (child_entry E N p k) ≡ table E N (child_address a k)
  unfolding node_on_plane
  table_child a p k high e =
      let t = table_there a p e in
      ap (λ q. cornered E N (child_entry E N q k)) t.2 ∙ child_of_node a k high t.0 (and_parts _ _ t.1).0
