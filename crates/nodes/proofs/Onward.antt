-- From a node to the next.
use Rattle.std.proofs.Common.{◌≡◌, ℕ, zero, suc, ◌+◌, ◌<◌, ◌≤◌, cond, List, [], ◌∷◌, ◌++◌, map, length, get_or, take, drop, set, ℤ, Some, None, Option, MatchOption, vec_items, sym, refl, ap, ◌∙◌, subst, ap₂, append_assoc, arith, zero-le, le-ltb, lt-ltb}
use Rattle.std.proofs.lemmas.List.{get_or_past, length-map, length-take, take-take, take_more, take_more_set}
use Rattle.std.specs.Option.{option_or}
use Rattle.exact.specs.JobNumbers.{PlacedNumbers, JobNumbers}
use Rattle.chains.specs.Addresses.{Address, seed_address, child_entries, child_count, child_tile, no_entry, seed_tile, seed_on, next_child, next_path, next_node, advance}
use Rattle.job_rows.specs.declared.Placed.{Placed}
use Rattle.job_rows.specs.declared.Tile.{Tile}
use Rattle.job_rows.specs.Limits.{most_children}
use Rattle.job_rows.specs.Shapes.{placed_with, tile_with, numbers_with}
use Rattle.ring_jobs.specs.declared.job.RingJob.{RingJob}
use Rattle.nodes.specs.Views.{address_view, address_at, further}
use Rattle.nodes.specs.declared.address.Address as coded
use Rattle.nodes.proofs.Paths.{next_child as next_child_number, no_child_left}

-- ---- seed tiles
module _ (N : JobNumbers) (s : ℕ) where
  pub a_seed : s < length N.seeds → seed_on N s ≡ Some (seed_address s)
  unfolding seed_on
  a_seed h = ap (λ b. cond b (Some (seed_address s)) None) (lt-ltb _ _ h)

  pub no_seed : length N.seeds ≤ s → seed_on N s ≡ None
  unfolding seed_on
  no_seed h = ap (λ b. cond b (Some (seed_address s)) None) (le-ltb _ _ h)

-- the tile of an entry that is looked up, 0 beyond the last; P is what the code knows of that tile
pub tile_of_entry : {S : Type 0} (listed : S → List ℤ) (entries : List PlacedNumbers) (k n : ℕ) (r : Option (Placed S)) (P : Placed S → Type 0) →
    MatchOption r (length entries ≤ k) (λ c. (k < length entries) × (get_or entries k no_entry ≡ placed_with listed c)) →
    MatchOption r (n ≡ 0) P → ((c : Placed S) → P c → n ≡ c.tile) → n ≡ (get_or entries k no_entry).tile
tile_of_entry listed entries k n None P h m f = m ∙ sym (ap (λ (x : PlacedNumbers). x.tile) (get_or_past entries k no_entry h))
tile_of_entry listed entries k n (Some c) P h m f = f c m ∙ sym (ap (λ (x : PlacedNumbers). x.tile) h.1)

-- ---- children
-- no tile of a job over a ring has more children than are numbered
module _ {S : Type 0} (listed : S → List ℤ) where
  few_at : (ts : List (Tile S)) (t : ℕ) → length (get_or (map (tile_with listed) ts) t (record { outline = []; children = [] })).children ≤ most_children
  few_at [] t = zero-le
  few_at (x ∷ ts) zero = subst (λ n. n ≤ most_children) (x.children.ok.0 ∙ sym (length-map (vec_items x.children) (placed_with listed))) x.family
  few_at (x ∷ ts) (suc t) = few_at ts t

  pub few_children : (j : RingJob S) (t : ℕ) → length (child_entries (numbers_with listed j.order j.rank j.book j.depth (vec_items j.seeds)) t) ≤ most_children
  few_children j t = few_at (vec_items j.book.tiles) t

-- the child after child k of tile t, in place of child number l of a path; n is k as the code has it
module _ (N : JobNumbers) (t k n : ℕ) (same : n ≡ k) (s : ℕ) (path : List ℕ) (l : ℕ) where
  abbrev above : Address
  above = record { seed = s; path = take l path }

  pub a_child_after : l < length path → n + 1 < length (child_entries N t) → Some (record { seed = s; path = take (l + 1) (set path l (n + 1)) }) ≡ further above (next_child N t k None)
  unfolding next_child child_count
  a_child_after h f =
      ap (λ p. Some (record { seed = s; path = p })) (take_more_set path l (n + 1) h ∙ ap (λ m. take l path ++ (m + 1) ∷ []) same)
      ∙ sym (ap (λ b. further above (cond b (Some ((k + 1) ∷ [])) None)) (lt-ltb _ _ (subst (λ m. m + 1 < length (child_entries N t)) same f)))

  pub no_child_after : length (child_entries N t) ≤ n + 1 → None ≡ further above (next_child N t k None)
  unfolding next_child child_count
  no_child_after f = sym (ap (λ b. further above (cond b (Some ((k + 1) ∷ [])) None)) (le-ltb _ _ (subst (λ m. length (child_entries N t) ≤ m + 1) same f)))

-- ---- down a path
-- the first that there is
or_none : {A : Type 0} (a : Option A) → a ≡ option_or a None
or_none None = refl
or_none (Some x) = refl

or_or : {A : Type 0} (a b c : Option A) → option_or (option_or a b) c ≡ option_or a (option_or b c)
or_or None b c = refl
or_or (Some x) b c = refl

at_or : (a b : Option coded.Address) → address_at (option_or a b) ≡ option_or (address_at a) (address_at b)
at_or None b = refl
at_or (Some x) b = refl

-- a path is the first numbers that an array holds
module _ (N : JobNumbers) (s : ℕ) (array : List ℕ) (level : ℕ) (path : List ℕ) (first : path ≡ take level array) where
  abbrev reached : ℕ → Address
  reached i = record { seed = s; path = take i path }

  -- what is next below the seed tile
  abbrev next : Option Address
  next = further (seed_address s) (next_path N (seed_tile N s) (take level array))

  -- what is next below the node reached, of tile t, or else what was kept
  abbrev next_or : ℕ → ℕ → Option coded.Address → Option Address
  next_or t i kept = option_or (further (reached i) (next_path N t (drop i path))) (address_at kept)

  same_start : (i : ℕ) → i < length path → take i array ≡ take i path
  same_start i h =
      let within : i ≤ level = omega (arith, ap length first, length-take level array) in
      sym (ap (take i) first ∙ take-take i level array within)

  -- n is s as the code has it
  pub from_seed : (n t : ℕ) → n ≡ s → t ≡ seed_tile N n → next ≡ next_or t 0 None
  from_seed n t e f = ap₂ (λ u l. further (seed_address s) (next_path N u l)) (sym (f ∙ ap (seed_tile N) e)) (sym first) ∙ or_none _

  module _ (t i : ℕ) (h : i < length path) where
    abbrev k : ℕ
    k = get_or path i 0

    -- what is next below a node is next below its child on the path or, where that is none, beside it
    below_or_beside : further (reached i) (next_path N t (drop i path)) ≡ option_or (further (reached (i + 1)) (next_path N (child_tile N t k) (drop (i + 1) path))) (further (reached i) (next_child N t k None))
    unfolding next_path next_child
    below_or_beside = ap (λ l. further (reached i) (next_path N t l)) (next_child_number path i k h refl) ∙ by (next_path N (child_tile N t k) (drop (i + 1) path))
      where
        on : (q : List ℕ) → take i path ++ k ∷ q ≡ take (i + 1) path ++ q
        on q = sym (ap (λ l. l ++ q) (take_more path i 0 h) ∙ append_assoc (take i path) (k ∷ []) q)

        by : (o : Option (List ℕ)) → further (reached i) (next_child N t k o) ≡ option_or (further (reached (i + 1)) o) (further (reached i) (next_child N t k None))
        by None = refl
        by (Some q) = ap (λ l. Some (record { seed = s; path = l })) (on q)

    -- u is the child's tile, and n its number as the code has it
    pub one_down : (n u : ℕ) (kept found nearest : Option coded.Address) → next ≡ next_or t i kept → n ≡ k → u ≡ child_tile N t n →
        address_at found ≡ further (record { seed = s; path = take i array }) (next_child N t k None) → nearest ≡ option_or found kept → next ≡ next_or u (i + 1) nearest
    one_down n u kept found nearest v e d f o =
        let below : ℕ → Option Address = λ x. further (reached (i + 1)) (next_path N x (drop (i + 1) path)) in
        let beside = f ∙ ap (λ l. further (record { seed = s; path = l }) (next_child N t k None)) (same_start i h) in
        v ∙ ap (λ z. option_or z (address_at kept)) below_or_beside ∙ or_or (below (child_tile N t k)) _ (address_at kept)
        ∙ ap₂ (λ x z. option_or (below x) z) (sym (d ∙ ap (child_tile N t) e)) (ap (λ z. option_or z (address_at kept)) (sym beside) ∙ sym (ap address_at o ∙ at_or found kept))

  -- at the end of the path nothing is left below
  pub all_down : (t i : ℕ) (kept : Option coded.Address) → next ≡ next_or t i kept → length path ≤ i → address_at kept ≡ next
  unfolding next_path
  all_down t i kept v h = sym (v ∙ ap (λ l. option_or (further (reached i) (next_path N t l)) (address_at kept)) (no_child_left path i h))

-- ---- on to the next seed tile
advance_is : (N : JobNumbers) (a : Address) → advance N a ≡ option_or (further (seed_address a.seed) (next_path N (seed_tile N a.seed) a.path)) (seed_on N (a.seed + 1))
unfolding advance next_node
advance_is N a = by (next_path N (seed_tile N a.seed) a.path)
  where
    by : (o : Option (List ℕ)) → next_node N a.seed o ≡ option_or (further (seed_address a.seed) o) (seed_on N (a.seed + 1))
    by None = refl
    by (Some q) = refl

-- P is what the code knows of its answer where it has found no next child
pub advances : (N : JobNumbers) (a : coded.Address) (o r : Option coded.Address) (P : Type 0) →
    address_at o ≡ further (seed_address a.seed) (next_path N (seed_tile N a.seed) (address_view a).path) →
    MatchOption o P (λ x. r ≡ Some x) → (P → address_at r ≡ seed_on N (a.seed + 1)) → address_at r ≡ advance N (address_view a)
advances N a o r P e m f = by o m ∙ ap (λ z. option_or z (seed_on N (a.seed + 1))) e ∙ sym (advance_is N (address_view a))
  where
    by : (o : Option coded.Address) → MatchOption o P (λ x. r ≡ Some x) → address_at r ≡ option_or (address_at o) (seed_on N (a.seed + 1))
    by None m = f m
    by (Some x) m = ap address_at m
