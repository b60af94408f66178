-- From a node of the job the cursor advances to a node of the job.
use Rattle.std.proofs.Common.{◌≡◌, ℕ, zero, suc, ◌+◌, ◌<◌, ◌≤◌, Bool, true, false, cond, ◌&&◌, ltb, leb, List, [], ◌∷◌, length, Some, None, Option, sym, refl, ap, ◌∙◌, arith, ltb-true, leb-true, le-leb, lt-ltb}
use Rattle.std.proofs.lemmas.Bool.{and_parts, and_from}
use Rattle.exact.specs.JobNumbers.{JobNumbers}
use Rattle.chains.specs.Addresses.{Address, has_node, seed_tile, child_count, child_tile, leads_down, next_child, next_path, next_node, seed_on, advance}
use Rattle.chains.proofs.Nodes.{has_seed}
use Rattle.calls.specs.Sheets.{AtNode, come_to}

-- a path that is there, and no longer than another
abbrev Leads : JobNumbers → ℕ → ℕ → Option (List ℕ) → Type 0
Leads N t long None = Unit {0}
Leads N t long (Some p) = (leads_down N t p ≡ true) × (length p ≤ long)

module _ (N : JobNumbers) where
  on_within : (t i long : ℕ) → ltb i (child_count N t) ≡ true → (p : Option (List ℕ)) → Leads N (child_tile N t i) long p → Leads N t (suc long) (next_child N t i p)
  unfolding next_child leads_down
  on_within t i long h (Some p) k = (and_from _ _ h k.0, omega (arith, k.1))
  on_within t i long h None k = go (ltb (i + 1) (child_count N t)) refl
    where
      go : (b : Bool) → ltb (i + 1) (child_count N t) ≡ b → Leads N t (suc long) (cond b (Some ((i + 1) ∷ [])) None)
      go true e = (and_from _ _ e refl, omega arith)
      go false e = tt

  onward : (t : ℕ) (path : List ℕ) → leads_down N t path ≡ true → Leads N t (length path) (next_path N t path)
  unfolding leads_down next_path
  onward t [] h = tt
  onward t (i ∷ path) h = let k = and_parts _ _ h in on_within t i (length path) k.0 (next_path N (child_tile N t i) path) (onward (child_tile N t i) path k.1)

  to_seed : (i : ℕ) → AtNode N (come_to (seed_on N i))
  unfolding seed_on
  to_seed i = go (ltb i (length N.seeds)) refl
    where
      go : (b : Bool) → ltb i (length N.seeds) ≡ b → AtNode N (come_to (cond b (Some (record { seed = i; path = [] })) None))
      go true e = has_seed N i (ltb-true _ _ e)
      go false e = tt

  pub stays_at_start : AtNode N (come_to (seed_on N 0))
  stays_at_start = to_seed 0

  pub stays : (a : Address) → has_node N a ≡ true → AtNode N (come_to (advance N a))
  unfolding has_node advance next_node
  stays a h =
      let k = and_parts _ _ h in let l = and_parts _ _ k.0 in
      go (next_path N (seed_tile N a.seed) a.path) (onward (seed_tile N a.seed) a.path k.1) (leb-true _ _ l.0) l.1
    where
      go : (p : Option (List ℕ)) → Leads N (seed_tile N a.seed) (length a.path) p → length a.path ≤ N.depth → ltb a.seed (length N.seeds) ≡ true → AtNode N (come_to (next_node N a.seed p))
      go (Some p) k d s = and_from _ _ (and_from _ _ (le-leb _ _ (omega (arith, k.1, d))) s) k.0
      go None k d s = to_seed (a.seed + 1)
