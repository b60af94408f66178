-- The lines of a job in range lead to it, and to nothing else.
use Rattle.std.proofs.Common.{◌≡◌, ℕ, ◌+◌, ◌<◌, ◌≤◌, Bool, List, [], ◌∷◌, ◌++◌, map, length, ℤ, Some, None, sym, refl, ap, ◌∙◌, subst, ap₂, inl, inr, ⊎_elim, append_assoc, append-nil, arith}
use Rattle.std.specs.List.{flat_map, AllByRecursion}
use Rattle.std.proofs.lemmas.List.{length_push, length-map}
use Rattle.exact.specs.JobNumbers.{JobNumbers, LabelNumbers, TileNumbers, PlacedNumbers, Part, Step}
use Rattle.lines.specs.Letters.{Letter, letter_R, letter_I, letter_L, letter_S, letter_T, letter_C, letter_D, letter_P}
use Rattle.lines.specs.Lines.{Line}
use Rattle.job_rows.specs.Limits.{most_children}
use Rattle.jobs.specs.Limits.{Ring, most_labels, most_tiles, most_depth, most_seeds}
use Rattle.jobs.specs.Ranges.{Element, PlacedFits, SeedFits, SubdivisionFits, OutlineFits, TileFits, LabelFits, Shaped, kinds_of}
use Rattle.jobs.specs.Spelled.{label_line, subdivision_line, child_line, seed_line, tile_lines, lines_of}
use Rattle.jobs.specs.Fronts.{Head, Front, nothing, Takes, Steps, Leads, labelled, job_of, with_ring, with_label, with_subdivision, with_tile, with_child, with_depth, with_seed}
use Rattle.jobs.proofs.Adds.{opened_some}
use Rattle.jobs.proofs.Series.{mark_inj, parts_unique, steps_unique, placed_unique}
use Rattle.jobs.proofs.Shapes.{whole_front, HeadFits, head_line, tile, depth_line, kinds}

-- each line leads to one front only
ring_rank : (n d m e : ℕ) → Ring n d → Ring m e → n ≡ m → d ≡ e
ring_rank n d m e r s q = ⊎_elim (λ x. ⊎_elim (λ y. omega (arith, x.1, y.1)) (λ y. absurd (omega (arith, x.0, y.0))) s) (λ x. ⊎_elim (λ y. absurd (omega (arith, x.0, y.0))) (λ y. omega (arith, x.1, y.1)) s) r

pub takes_one : (a : Letter) (f : Front) (zs : List ℤ) (g h : Front) → Takes f a zs g → Takes f a zs h → g ≡ h
takes_one letter_R f zs g h (n, d, r, e, q) (m, c, s, k, w) =
    let x : n ≡ m = cc in
    q ∙ ap₂ (with_ring f) x (ring_rank n d m c r s x) ∙ sym w
takes_one letter_I f zs g h (_, q) (_, w) = q ∙ sym w
takes_one letter_L f zs g h (x, _, e, q) (y, _, k, w) =
    let m = mark_inj x.arrowed y.arrowed (cc) in
    let l : x.length ≡ y.length = cc in
    let u : x ≡ y = λ i. record { arrowed = m i; length = l i } in
    q ∙ ap (with_label f) u ∙ sym w
takes_one letter_S f zs g h (x, _, e, q) (y, _, k, w) = q ∙ ap (with_subdivision f) (parts_unique x y (sym e ∙ k)) ∙ sym w
takes_one letter_T f zs g h (x, _, e, q) (y, _, k, w) = q ∙ ap (with_tile f) (steps_unique x y (sym e ∙ k)) ∙ sym w
takes_one letter_C f zs g h (x, _, e, q) (y, _, k, w) = q ∙ ap (with_child f) (placed_unique x y (sym e ∙ k)) ∙ sym w
takes_one letter_D f zs g h (x, _, e, q) (y, _, k, w) = let u : x ≡ y = cc in q ∙ ap (with_depth f) u ∙ sym w
takes_one letter_P f zs g h (x, _, e, q) (y, _, k, w) = q ∙ ap (with_seed f) (placed_unique x y (sym e ∙ k)) ∙ sym w

-- one line, as a step
then : (f h g : Front) (l : Line) (ls : List Line) → Steps f l h → Leads h ls g → Leads f (l ∷ ls) g
then f h g l ls s k = (h, s, k)

run_labels : (n d : ℕ) (fs : List ℤ) (hs ms : List Head) (rest : List Line) (g : Front) → 0 < length fs → length hs + length ms ≤ most_labels → AllByRecursion (HeadFits d) ms
    → Leads (whole_front n d fs (hs ++ ms) [] [] [] [] None []) rest g → Leads (whole_front n d fs hs [] [] [] [] None []) (map head_line ms ++ rest) g
run_labels n d fs hs [] rest g some few a k = subst (λ x. Leads (whole_front n d fs x [] [] [] [] None []) rest g) (append-nil hs) k
run_labels n d fs hs (m ∷ ms) rest g some few a k = (
  whole_front n d fs (hs ++ m ∷ []) [] [] [] [] None [],
  ((some, refl, omega arith), (m, a.0, refl, refl)),
  run_labels n d fs (hs ++ m ∷ []) ms rest g some (let z = length_push hs m in omega arith) a.1 (subst (λ x. Leads (whole_front n d fs x [] [] [] [] None []) rest g) (sym (append_assoc hs (m ∷ []) ms)) k),
)

run_subdivisions : (n d : ℕ) (fs : List ℤ) (hs : List Head) (ps qs : List (List Part)) (rest : List Line) (g : Front) → length ps + length qs ≤ length hs → AllByRecursion (SubdivisionFits (kinds hs)) qs
    → Leads (whole_front n d fs hs (ps ++ qs) [] [] [] None []) rest g → Leads (whole_front n d fs hs ps [] [] [] None []) (map subdivision_line qs ++ rest) g
run_subdivisions n d fs hs ps [] rest g few a k = subst (λ x. Leads (whole_front n d fs hs x [] [] [] None []) rest g) (append-nil ps) k
run_subdivisions n d fs hs ps (q ∷ qs) rest g few a k = (
  whole_front n d fs hs (ps ++ q ∷ []) [] [] [] None [],
  (omega arith, (q, a.0, refl, refl)),
  run_subdivisions n d fs hs (ps ++ q ∷ []) qs rest g (let z = length_push ps q in omega arith) a.1 (subst (λ x. Leads (whole_front n d fs hs x [] [] [] None []) rest g) (sym (append_assoc ps (q ∷ []) qs)) k),
)

run_children : (n d : ℕ) (fs : List ℤ) (hs : List Head) (ps : List (List Part)) (ts : List TileNumbers) (ss : List Step) (cs ms : List PlacedNumbers) (rest : List Line) (g : Front) → 0 < length ss → length cs + length ms ≤ most_children → AllByRecursion (PlacedFits n d) ms
    → Leads (whole_front n d fs hs ps ts ss (cs ++ ms) None []) rest g → Leads (whole_front n d fs hs ps ts ss cs None []) (map child_line ms ++ rest) g
run_children n d fs hs ps ts ss cs [] rest g some few a k = subst (λ x. Leads (whole_front n d fs hs ps ts ss x None []) rest g) (append-nil cs) k
run_children n d fs hs ps ts ss cs (m ∷ ms) rest g some few a k = (
  whole_front n d fs hs ps ts ss (cs ++ m ∷ []) None [],
  ((some, omega arith), (m, a.0, refl, refl)),
  run_children n d fs hs ps ts ss (cs ++ m ∷ []) ms rest g some (let z = length_push cs m in omega arith) a.1 (subst (λ x. Leads (whole_front n d fs hs ps ts ss x None []) rest g) (sym (append_assoc cs (m ∷ []) ms)) k),
)

run_seeds : (n d : ℕ) (fs : List ℤ) (hs : List Head) (ps : List (List Part)) (ts : List TileNumbers) (depth : ℕ) (cs ms : List PlacedNumbers) (g : Front) → length cs + length ms ≤ most_seeds → AllByRecursion (SeedFits (length ts) n d) ms
    → whole_front n d fs hs ps ts [] [] (Some depth) (cs ++ ms) ≡ g → Leads (whole_front n d fs hs ps ts [] [] (Some depth) cs) (map seed_line ms) g
run_seeds n d fs hs ps ts depth cs [] g few a k = ap (whole_front n d fs hs ps ts [] [] (Some depth)) (sym (append-nil cs)) ∙ k
run_seeds n d fs hs ps ts depth cs (m ∷ ms) g few a k = (
  whole_front n d fs hs ps ts [] [] (Some depth) (cs ++ m ∷ []),
  ((refl, omega arith), (m, a.0, refl, refl)),
  run_seeds n d fs hs ps ts depth (cs ++ m ∷ []) ms g (let z = length_push cs m in omega arith) a.1 (ap (whole_front n d fs hs ps ts [] [] (Some depth)) (append_assoc cs (m ∷ []) ms) ∙ k),
)

outline_some : (ks : List Bool) (n : ℕ) (ss : List Step) → OutlineFits ks n ss → length ss ≡ 0 → ⊥
outline_some ks n ss f e = omega (arith, f.0)

-- more tiles after an open one
run_tiles : (n d : ℕ) (fs : List ℤ) (hs : List Head) (ps : List (List Part)) (ts : List TileNumbers) (ss : List Step) (cs : List PlacedNumbers) (ms : List TileNumbers) (depth : ℕ) (rest : List Line) (g : Front)
    → 0 < length hs → length ps ≡ length hs → OutlineFits (kinds hs) n ss → 0 < length cs → length ts + 1 + length ms ≤ most_tiles → AllByRecursion (TileFits (kinds hs) n d) ms → depth ≤ most_depth
    → Leads (whole_front n d fs hs ps (ts ++ tile ss cs ∷ ms) [] [] (Some depth) []) rest g → Leads (whole_front n d fs hs ps ts ss cs None []) (flat_map tile_lines ms ++ depth_line depth ∷ rest) g
run_tiles n d fs hs ps ts ss cs [] depth rest g h p o c few a deep k = (
  whole_front n d fs hs ps (ts ++ tile ss cs ∷ []) [] [] (Some depth) [],
  (c, (depth, deep, refl, ap (λ x. whole_front n d fs hs ps (ts ++ x) [] [] (Some depth) []) (sym (opened_some ss cs (outline_some (kinds hs) n ss o))))),
  k,
)
run_tiles n d fs hs ps ts ss cs (m ∷ ms) depth rest g h p o c few a deep k = (
  whole_front n d fs hs ps (ts ++ tile ss cs ∷ []) m.outline [] None [],
  ((h, p, inr (c, omega arith)), (m.outline, a.0.0, refl, ap (λ x. whole_front n d fs hs ps (ts ++ x) m.outline [] None []) (sym (opened_some ss cs (outline_some (kinds hs) n ss o))))),
  subst (λ ls. Leads (whole_front n d fs hs ps (ts ++ tile ss cs ∷ []) m.outline [] None []) ls g) (sym (append_assoc (map child_line m.children) (flat_map tile_lines ms) (depth_line depth ∷ rest)))
      (run_children n d fs hs ps (ts ++ tile ss cs ∷ []) m.outline [] m.children (flat_map tile_lines ms ++ depth_line depth ∷ rest) g (omega (arith, a.0.0.0)) (omega (arith, a.0.1.1)) a.0.1.2
      (run_tiles n d fs hs ps (ts ++ tile ss cs ∷ []) m.outline m.children ms depth rest g h p a.0.0 a.0.1.0 (let z = length_push ts (tile ss cs) in omega arith) a.1 deep
      (subst (λ x. Leads (whole_front n d fs hs ps x [] [] (Some depth) []) rest g) (sym (append_assoc ts (tile ss cs ∷ []) (m ∷ ms))) k))),
)

-- all tiles, from the first
run_all_tiles : (n d : ℕ) (fs : List ℤ) (hs : List Head) (ps : List (List Part)) (ts : List TileNumbers) (depth : ℕ) (rest : List Line) (g : Front)
    → 0 < length hs → length ps ≡ length hs → 0 < length ts → length ts ≤ most_tiles → AllByRecursion (TileFits (kinds hs) n d) ts → depth ≤ most_depth
    → Leads (whole_front n d fs hs ps ts [] [] (Some depth) []) rest g → Leads (whole_front n d fs hs ps [] [] [] None []) (flat_map tile_lines ts ++ depth_line depth ∷ rest) g
run_all_tiles n d fs hs ps [] depth rest g h p some few a deep k = absurd (omega arith)
run_all_tiles n d fs hs ps (m ∷ ms) depth rest g h p some few a deep k = (
  whole_front n d fs hs ps [] m.outline [] None [],
  ((h, p, inl (refl, refl)), (m.outline, a.0.0, refl, refl)),
  subst (λ ls. Leads (whole_front n d fs hs ps [] m.outline [] None []) ls g) (sym (append_assoc (map child_line m.children) (flat_map tile_lines ms) (depth_line depth ∷ rest)))
      (run_children n d fs hs ps [] m.outline [] m.children (flat_map tile_lines ms ++ depth_line depth ∷ rest) g (omega (arith, a.0.0.0)) (omega (arith, a.0.1.1)) a.0.1.2
      (run_tiles n d fs hs ps [] m.outline m.children ms depth rest g h p a.0.0 a.0.1.0 (omega arith) a.1 deep k)),
)

-- the front of a whole job
abbrev pub head : LabelNumbers → Head
head l = record { arrowed = l.arrowed; length = l.length }

abbrev pub whole : JobNumbers → Front
whole j = whole_front j.order j.rank j.factor (map head j.labels) (map (λ (l : LabelNumbers). l.subdivision) j.labels) j.tiles [] [] (Some j.depth) j.seeds

head_lines : (ls : List LabelNumbers) → map head_line (map head ls) ≡ map label_line ls
head_lines [] = refl
head_lines (l ∷ ls) = ap (λ t. label_line l ∷ t) (head_lines ls)

subdivision_lines : (ls : List LabelNumbers) → map subdivision_line (map (λ (l : LabelNumbers). l.subdivision) ls) ≡ map (λ (l : LabelNumbers). subdivision_line l.subdivision) ls
subdivision_lines [] = refl
subdivision_lines (l ∷ ls) = ap (λ t. subdivision_line l.subdivision ∷ t) (subdivision_lines ls)

head_kinds : (ls : List LabelNumbers) → kinds (map head ls) ≡ kinds_of ls
head_kinds [] = refl
head_kinds (l ∷ ls) = ap (λ t. l.arrowed ∷ t) (head_kinds ls)

heads_fit : (ks : List Bool) (d : ℕ) (ls : List LabelNumbers) → AllByRecursion (LabelFits ks d) ls → AllByRecursion (HeadFits d) (map head ls)
heads_fit ks d [] a = tt
heads_fit ks d (l ∷ ls) a = (a.0.0, heads_fit ks d ls a.1)

subdivisions_fit : (ks : List Bool) (d : ℕ) (ls : List LabelNumbers) → AllByRecursion (LabelFits ks d) ls → AllByRecursion (SubdivisionFits ks) (map (λ (l : LabelNumbers). l.subdivision) ls)
subdivisions_fit ks d [] a = tt
subdivisions_fit ks d (l ∷ ls) a = (a.0.1, subdivisions_fit ks d ls a.1)

relabelled : (ls : List LabelNumbers) → labelled (map head ls) (map (λ (l : LabelNumbers). l.subdivision) ls) ≡ ls
relabelled [] = refl
relabelled (l ∷ ls) = ap (λ t. l ∷ t) (relabelled ls)

pub job_whole : (j : JobNumbers) → job_of (whole j) ≡ j
job_whole j = let e = relabelled j.labels in λ i. record { order = j.order; rank = j.rank; factor = j.factor; labels = e i; tiles = j.tiles; depth = j.depth; seeds = j.seeds }

factor_some : (n d : ℕ) (fs : List ℤ) → Ring n d → Element d fs → 0 < length fs
factor_some n d fs r f = omega (arith, f.0)

pub job_leads : (j : JobNumbers) → Shaped j → Leads nothing (lines_of j) (whole j)
job_leads j s =
    let ls = j.labels in
    let hs = map head ls in
    let ps = map (λ (l : LabelNumbers). l.subdivision) ls in
    let nh = length-map ls head in
    let np = length-map ls (λ (l : LabelNumbers). l.subdivision) in
    let ks = head_kinds ls in
    let body = map label_line ls ++ (map (λ (l : LabelNumbers). subdivision_line l.subdivision) ls ++ (flat_map tile_lines j.tiles ++ depth_line j.depth ∷ map seed_line j.seeds)) in
    let last : Leads (whole_front j.order j.rank j.factor hs ps j.tiles [] [] (Some j.depth) []) (map seed_line j.seeds) (whole j) = run_seeds j.order j.rank j.factor hs ps j.tiles j.depth [] j.seeds (whole j) (omega (arith, s.few_seeds)) s.seeds refl in
    let tiles = run_all_tiles j.order j.rank j.factor hs ps j.tiles j.depth (map seed_line j.seeds) (whole j) (omega (arith, s.some_labels)) (omega arith) s.some_tiles s.few_tiles (subst (λ k. AllByRecursion (TileFits k j.order j.rank) j.tiles) (sym ks) s.tiles) s.depth last in
    let divided = run_subdivisions j.order j.rank j.factor hs [] ps (flat_map tile_lines j.tiles ++ depth_line j.depth ∷ map seed_line j.seeds) (whole j) (omega arith) (subst (λ k. AllByRecursion (SubdivisionFits k) ps) (sym ks) (subdivisions_fit _ j.rank ls s.labels)) tiles in
    let listed = run_labels j.order j.rank j.factor [] hs (map subdivision_line ps ++ (flat_map tile_lines j.tiles ++ depth_line j.depth ∷ map seed_line j.seeds)) (whole j) (factor_some _ _ _ s.ring s.factor) (omega (arith, s.few_labels)) (heads_fit _ j.rank ls s.labels) divided in
    let e : map head_line hs ++ (map subdivision_line ps ++ (flat_map tile_lines j.tiles ++ depth_line j.depth ∷ map seed_line j.seeds)) ≡ body
    = ap₂ (λ x y. x ++ (y ++ (flat_map tile_lines j.tiles ++ depth_line j.depth ∷ map seed_line j.seeds))) (head_lines ls) (subdivision_lines ls) in (
      whole_front j.order j.rank [] [] [] [] [] [] None [],
      (refl, (j.order, j.rank, s.ring, refl, refl)),
      (
        whole_front j.order j.rank j.factor [] [] [] [] [] None [],
        ((order_some j.order j.rank s.ring, refl), (s.factor, refl)),
        subst (λ x. Leads (whole_front j.order j.rank j.factor [] [] [] [] [] None []) x (whole j)) e listed,
      ),
    )
  where
    order_some : (n d : ℕ) → Ring n d → 0 < n
    order_some n d r = omega arith
