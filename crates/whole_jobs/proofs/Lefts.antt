-- What is left before a step and after it.
use Rattle.std.proofs.Common.{◌≡◌, ℕ, suc, ◌+◌, ◌-◌, ◌<◌, List, [], ◌∷◌, ◌++◌, map, length, Some, None, Option, sym, refl, ap, ap₂, ◌∙◌, arith, length-append}
use Rattle.std.proofs.lemmas.Grind.{flat_map-append}
use Rattle.std.proofs.lemmas.List.Folds.{flat_map-map}
use Rattle.std.specs.List.{flat_map, range_with_len}
use Rattle.exact.specs.JobNumbers.{JobNumbers}
use Rattle.chains.specs.Addresses.{Address, level, seed_address, child_address, child_count, node_tile, seeds_from, seed_on, children_from, behind, pending, advance}
use Rattle.chains.proofs.Following.{follows}
use Rattle.calls.specs.Depths.{levels_below, pieces_of, pieces}
use Rattle.calls.specs.Sheets.{come_to}
use Rattle.runs.specs.Runs.{node_at}
use Rattle.whole_jobs.specs.Whole.{left}

same_flat : {A B : Type 0} (f g : A → List B) → ((x : A) → f x ≡ g x) → (xs : List A) → flat_map f xs ≡ flat_map g xs
same_flat f g h [] = refl
same_flat f g h (x ∷ xs) = ap₂ ◌++◌ (h x) (same_flat f g h xs)

come_to_node : (o : Option Address) → node_at (come_to o) ≡ o
come_to_node None = refl
come_to_node (Some a) = refl

module _ (N : JobNumbers) where
  -- above the depth a node comes to what its children come to
  children_come_to : (a : Address) → level a < N.depth → flat_map (pieces_of N) (children_from N a 0) ≡ pieces_of N a
  unfolding children_from levels_below
  children_come_to a high =
      let k = N.depth - (level a + 1) in
      let here : N.depth - level a ≡ suc k = omega arith in
      let below : (i : ℕ) → N.depth - length (a.path ++ i ∷ []) ≡ k = λ i. omega (arith, length-append a.path (i ∷ [])) in
      let children = range_with_len 0 (child_count N (node_tile N a) - 0) in
      flat_map-map (pieces_of N) (child_address a) children
      ∙ same_flat (λ i. pieces_of N (child_address a i)) (λ i. levels_below N k (child_address a i)) (λ i. ap (λ n. levels_below N n (child_address a i)) (below i)) children
      ∙ sym (flat_map-map (levels_below N k) (child_address a) children)
      ∙ ap (λ n. levels_below N n a) (sym here)

  -- at the depth it is a piece
  itself : (a : Address) → level a ≡ N.depth → pieces_of N a ≡ a ∷ []
  unfolding levels_below
  itself a deep = let e : N.depth - level a ≡ 0 = omega arith in ap (λ n. levels_below N n a) e

  left_at : (a : Address) → flat_map (pieces_of N) (pending N (Some a)) ≡ pieces_of N a ++ flat_map (pieces_of N) (behind N a)
  unfolding pending
  left_at a = refl

  pub left_down : (a : Address) → level a < N.depth → 0 < child_count N (node_tile N a) → flat_map (pieces_of N) (pending N (Some a)) ≡ flat_map (pieces_of N) (pending N (Some (child_address a 0)))
  left_down a high child =
      left_at a ∙ ap (λ ps. ps ++ flat_map (pieces_of N) (behind N a)) (sym (children_come_to a high))
      ∙ sym (flat_map-append (pieces_of N) (children_from N a 0) (behind N a))
      ∙ ap (flat_map (pieces_of N)) (sym ((follows N).descending a child))

  pub left_on : (a : Address) → level a ≡ N.depth → flat_map (pieces_of N) (pending N (Some a)) ≡ a ∷ left N (come_to (advance N a))
  left_on a deep =
      left_at a ∙ ap (λ ps. ps ++ flat_map (pieces_of N) (behind N a)) (itself a deep)
      ∙ ap (λ ns. a ∷ flat_map (pieces_of N) ns) (sym ((follows N).advancing a) ∙ ap (pending N) (sym (come_to_node (advance N a))))

  pub nothing_left : left N None ≡ []
  unfolding pending
  nothing_left = refl

  seed_pieces : (i n : ℕ) → flat_map (pieces_of N) (map seed_address (range_with_len i n)) ≡ flat_map (levels_below N N.depth) (map seed_address (range_with_len i n))
  seed_pieces i n =
      let whole : N.depth - 0 ≡ N.depth = omega arith in
      flat_map-map (pieces_of N) seed_address (range_with_len i n)
      ∙ same_flat (λ k. pieces_of N (seed_address k)) (λ k. levels_below N N.depth (seed_address k)) (λ k. ap (λ d. levels_below N d (seed_address k)) whole) (range_with_len i n)
      ∙ sym (flat_map-map (levels_below N N.depth) seed_address (range_with_len i n))

  -- on a new sheet all pieces are left
  pub left_at_start : left N (come_to (seed_on N 0)) ≡ pieces N
  unfolding pieces seeds_from
  left_at_start = ap (flat_map (pieces_of N)) (ap (pending N) (come_to_node (seed_on N 0)) ∙ (follows N).starting) ∙ seed_pieces 0 (length N.seeds - 0)
