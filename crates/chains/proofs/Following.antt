-- What is pending follows from the cursor.
use Rattle.std.proofs.Common.{◌≡◌, ℕ, suc, ◌+◌, ◌-◌, ◌<◌, ◌≤◌, Bool, true, false, cond, ltb, List, [], ◌∷◌, ◌++◌, map, length, Some, None, Option, sym, refl, ap, ◌∙◌, append_assoc, append-nil, arith, ltb-false, ltb-true}
use mathlib.Core.List.{map-append}
use Rattle.std.specs.List.{range_with_len}
use Rattle.exact.specs.JobNumbers.{JobNumbers}
use Rattle.chains.specs.Addresses.{Address, seed_address, child_address, child_count, child_tile, seed_tile, tile_below, node_tile, seeds_from, children_from, later, behind, pending, seed_on, next_child, next_path, next_node, advance}
use Rattle.chains.specs.Theorems.{PendingFollowsTheCursor}
use Rattle.std.proofs.lemmas.Simd.{map-map}

-- what is left to count
count_on : (m n : ℕ) → m < n → range_with_len m (n - m) ≡ m ∷ range_with_len (m + 1) (n - (m + 1))
count_on m n h = ap (range_with_len m) e
  where
    e : n - m ≡ suc (n - (m + 1))
    e = omega arith

count_out : (m n : ℕ) → n ≤ m → range_with_len m (n - m) ≡ []
count_out m n h = ap (range_with_len m) e
  where
    e : n - m ≡ 0
    e = omega arith

module _ (N : JobNumbers) where
  -- the later paths begin with the next
  paths_from : ℕ → Option (List ℕ) → List (List ℕ)
  paths_from t None = []
  paths_from t (Some path) = path ∷ later N t path

  later_next : (t : ℕ) (path : List ℕ) → later N t path ≡ paths_from t (next_path N t path)
  unfolding later paths_from next_path next_child
  later_next t [] = refl
  later_next t (i ∷ path) = ap (λ z. map (◌∷◌ i) z ++ map (λ j. j ∷ []) (range_with_len (i + 1) (child_count N t - (i + 1)))) (later_next (child_tile N t i) path) ∙ go (next_path N (child_tile N t i) path)
    where
      out : (b : Bool) → ltb (i + 1) (child_count N t) ≡ b → map (λ j. j ∷ []) (range_with_len (i + 1) (child_count N t - (i + 1))) ≡ paths_from t (cond b (Some ((i + 1) ∷ [])) None)
      out true e = ap (map (λ j. j ∷ [])) (count_on (i + 1) (child_count N t) (ltb-true _ _ e))
      out false e = ap (map (λ j. j ∷ [])) (count_out (i + 1) (child_count N t) (ltb-false _ _ e))

      go : (o : Option (List ℕ)) → map (◌∷◌ i) (paths_from (child_tile N t i) o) ++ map (λ j. j ∷ []) (range_with_len (i + 1) (child_count N t - (i + 1))) ≡ paths_from t (next_child N t i o)
      go None = out (ltb (i + 1) (child_count N t)) refl
      go (Some q) = refl

  later_child : (t : ℕ) (path : List ℕ) (i : ℕ) → later N t (path ++ i ∷ []) ≡ map (λ j. path ++ j ∷ []) (range_with_len (i + 1) (child_count N (tile_below N t path) - (i + 1))) ++ later N t path
  unfolding later tile_below
  later_child t [] i = sym (append-nil _)
  later_child t (k ∷ path) i = ap (λ z. map (◌∷◌ k) z ++ map (λ j. j ∷ []) (range_with_len (k + 1) (child_count N t - (k + 1)))) (later_child (child_tile N t k) path i)
      ∙ ap (λ z. z ++ map (λ j. j ∷ []) (range_with_len (k + 1) (child_count N t - (k + 1)))) (map-append (◌∷◌ k) _ (later N (child_tile N t k) path) ∙ ap (λ z. z ++ map (◌∷◌ k) (later N (child_tile N t k) path)) (map-map (◌∷◌ k) (λ j. path ++ j ∷ []) _))
      ∙ append_assoc _ (map (◌∷◌ k) (later N (child_tile N t k) path)) _

  seeds_on : (i : ℕ) → pending N (seed_on N i) ≡ seeds_from N i
  unfolding seeds_from pending seed_on behind later
  seeds_on i = go (ltb i (length N.seeds)) refl
    where
      go : (b : Bool) → ltb i (length N.seeds) ≡ b → pending N (cond b (Some (seed_address i)) None) ≡ map seed_address (range_with_len i (length N.seeds - i))
      go true e = ap (map seed_address) (sym (count_on i (length N.seeds) (ltb-true _ _ e)))
      go false e = ap (map seed_address) (sym (count_out i (length N.seeds) (ltb-false _ _ e)))

  advances : (a : Address) → pending N (advance N a) ≡ behind N a
  unfolding behind pending advance next_node paths_from
  advances a = sym (ap (λ z. map (λ path. record { seed = a.seed; path = path }) z ++ seeds_from N (a.seed + 1)) (later_next (seed_tile N a.seed) a.path) ∙ go (next_path N (seed_tile N a.seed) a.path))
    where
      go : (o : Option (List ℕ)) → map (λ path. record { seed = a.seed; path = path }) (paths_from (seed_tile N a.seed) o) ++ seeds_from N (a.seed + 1) ≡ pending N (next_node N a.seed o)
      go None = sym (seeds_on (a.seed + 1))
      go (Some q) = refl

  -- a node's children but the first, and what is behind the node, are behind its first child
  behind_child : (a : Address) → behind N (child_address a 0) ≡ children_from N a 1 ++ behind N a
  unfolding behind children_from node_tile
  behind_child a =
      ap (λ z. map (λ path. record { seed = a.seed; path = path }) z ++ seeds_from N (a.seed + 1)) (later_child (seed_tile N a.seed) a.path 0)
      ∙ ap (λ z. z ++ seeds_from N (a.seed + 1)) (map-append _ _ (later N (seed_tile N a.seed) a.path) ∙ ap (λ z. z ++ map (λ path. record { seed = a.seed; path = path }) (later N (seed_tile N a.seed) a.path)) (map-map _ (λ j. a.path ++ j ∷ []) _))
      ∙ append_assoc (map (child_address a) (range_with_len 1 (child_count N (node_tile N a) - 1))) (map (λ path. record { seed = a.seed; path = path }) (later N (seed_tile N a.seed) a.path)) (seeds_from N (a.seed + 1))

  descends : (a : Address) → 0 < child_count N (node_tile N a) → pending N (Some (child_address a 0)) ≡ children_from N a 0 ++ behind N a
  unfolding pending children_from
  descends a h = ap (◌∷◌ (child_address a 0)) (behind_child a) ∙ ap (λ z. map (child_address a) z ++ behind N a) (sym (count_on 0 (child_count N (node_tile N a)) h))

  -- the next path after a child's, from the parent's
  next_of_child : (t : ℕ) (path : List ℕ) (i : ℕ) → next_path N t (path ++ i ∷ []) ≡ cond (ltb (i + 1) (child_count N (tile_below N t path))) (Some (path ++ (i + 1) ∷ [])) (next_path N t path)
  unfolding next_path next_child tile_below
  next_of_child t [] i = refl
  next_of_child t (k ∷ path) i = ap (next_child N t k) (next_of_child (child_tile N t k) path i) ∙ go (ltb (i + 1) (child_count N (tile_below N (child_tile N t k) path)))
    where
      go : (b : Bool) → next_child N t k (cond b (Some (path ++ (i + 1) ∷ [])) (next_path N (child_tile N t k) path)) ≡ cond b (Some (k ∷ (path ++ (i + 1) ∷ []))) (next_child N t k (next_path N (child_tile N t k) path))
      go true = refl
      go false = refl

  advance_child : (a : Address) (i : ℕ) → advance N (child_address a i) ≡ cond (ltb (i + 1) (child_count N (node_tile N a))) (Some (child_address a (i + 1))) (advance N a)
  unfolding advance next_node node_tile
  advance_child a i = ap (next_node N a.seed) (next_of_child (seed_tile N a.seed) a.path i) ∙ go (ltb (i + 1) (child_count N (tile_below N (seed_tile N a.seed) a.path)))
    where
      go : (b : Bool) → next_node N a.seed (cond b (Some (a.path ++ (i + 1) ∷ [])) (next_path N (seed_tile N a.seed) a.path)) ≡ cond b (Some (child_address a (i + 1))) (next_node N a.seed (next_path N (seed_tile N a.seed) a.path))
      go true = refl
      go false = refl

  advance_seed : (i : ℕ) → advance N (seed_address i) ≡ seed_on N (i + 1)
  unfolding advance next_node next_path
  advance_seed i = refl

  pub follows : PendingFollowsTheCursor N
  follows = record { from_a_child = advance_child; from_a_seed = advance_seed; starting = seeds_on 0; advancing = advances; descending = descends }
