-- The fronts that lines can lead to, and the lines that lead there.
use Rattle.std.proofs.Common.{◌≡◌, ℕ, ◌+◌, ◌<◌, ◌≤◌, Bool, List, [], ◌∷◌, ◌++◌, map, length, ℤ, pos, Some, None, Option, sym, refl, ap, ◌∙◌, subst, ap₂, ⊎_elim, append_assoc, append-nil, arith}
use Rattle.std.specs.List.{flat_map, AllByRecursion}
use Rattle.std.proofs.ByRecursion.{All-push}
use Rattle.std.proofs.lemmas.List.{length_push, map_push}
use Rattle.std.proofs.lemmas.Bool.{false≢true}
use Rattle.exact.specs.JobNumbers.{LabelNumbers, TileNumbers, PlacedNumbers, Part, Step}
use Rattle.lines.specs.Letters.{Letter, letter_R, letter_I, letter_L, letter_S, letter_T, letter_C, letter_D, letter_P}
use Rattle.lines.specs.Lines.{Line, line}
use Rattle.job_rows.specs.Limits.{most_children}
use Rattle.jobs.specs.Limits.{Ring, most_labels, most_tiles, most_depth, most_seeds}
use Rattle.jobs.specs.Ranges.{Element, PlacedFits, SeedFits, SubdivisionFits, OutlineFits, TileFits, LabelFits, Shaped, kinds_of}
use Rattle.jobs.specs.Spelled.{label_numbers, label_line, subdivision_line, outline_line, child_line, seed_line, tile_lines, lines_of}
use Rattle.jobs.specs.Fronts.{Head, Front, nothing, Place, Complete, Takes, Leads, labelled, job_of}
use Rattle.jobs.proofs.Adds.{opened_some}

abbrev pub kinds : List Head → List Bool
kinds hs = map (λ (h : Head). h.arrowed) hs

abbrev pub HeadFits : ℕ → Head → Type 0
HeadFits d h = Element d h.length

abbrev pub head_line : Head → Line
head_line h = line letter_L (label_numbers h.arrowed h.length)

abbrev pub tile : List Step → List PlacedNumbers → TileNumbers
tile ss cs = record { outline = ss; children = cs }

pub data Shape : Type 0 where
  start : Shape
  ringed : (n d : ℕ) → Shape
  listed : (n d : ℕ) (fs : List ℤ) (hs : List Head) (pss : List (List Part)) → Shape
  tiled : (n d : ℕ) (fs : List ℤ) (hs : List Head) (pss : List (List Part)) (ts : List TileNumbers) (ss : List Step) (cs : List PlacedNumbers) → Shape
  ended : (n d : ℕ) (fs : List ℤ) (hs : List Head) (pss : List (List Part)) (ts : List TileNumbers) (depth : ℕ) (ps : List PlacedNumbers) → Shape

abbrev pub whole_front : ℕ → ℕ → List ℤ → List Head → List (List Part) → List TileNumbers → List Step → List PlacedNumbers → Option ℕ → List PlacedNumbers → Front
whole_front n d fs hs pss ts ss cs depth ps = record { order = n; rank = d; factor = fs; heads = hs; subdivisions = pss; tiles = ts; outline = ss; children = cs; depth = depth; seeds = ps }

abbrev pub shape_front : Shape → Front
shape_front start = nothing
shape_front (ringed n d) = whole_front n d [] [] [] [] [] [] None []
shape_front (listed n d fs hs pss) = whole_front n d fs hs pss [] [] [] None []
shape_front (tiled n d fs hs pss ts ss cs) = whole_front n d fs hs pss ts ss cs None []
shape_front (ended n d fs hs pss ts depth ps) = whole_front n d fs hs pss ts [] [] (Some depth) ps

abbrev pub ring_line : ℕ → Line
ring_line n = line letter_R (pos n ∷ [])

abbrev pub factor_line : List ℤ → Line
factor_line fs = line letter_I fs

abbrev pub depth_line : ℕ → Line
depth_line n = line letter_D (pos n ∷ [])

abbrev pub shape_lines : Shape → List Line
shape_lines start = []
shape_lines (ringed n d) = ring_line n ∷ []
shape_lines (listed n d fs hs pss) = ring_line n ∷ factor_line fs ∷ (map head_line hs ++ map subdivision_line pss)
shape_lines (tiled n d fs hs pss ts ss cs) = ring_line n ∷ factor_line fs ∷ (map head_line hs ++ (map subdivision_line pss ++ (flat_map tile_lines ts ++ tile_lines (tile ss cs))))
shape_lines (ended n d fs hs pss ts depth ps) = ring_line n ∷ factor_line fs ∷ (map head_line hs ++ (map subdivision_line pss ++ (flat_map tile_lines ts ++ depth_line depth ∷ map seed_line ps)))

pub record Base (n d : ℕ) (fs : List ℤ) (hs : List Head) (pss : List (List Part)) : Type 0 where
  pub ring : Ring n d
  pub factor : Element d fs
  pub few : length hs ≤ most_labels
  pub heads : AllByRecursion (HeadFits d) hs
  pub paired : length pss ≤ length hs
  pub subdivisions : AllByRecursion (SubdivisionFits (kinds hs)) pss

pub record Divided (hs : List Head) (pss : List (List Part)) : Type 0 where
  pub some : 0 < length hs
  pub each : length pss ≡ length hs

pub record Open (n d : ℕ) (hs : List Head) (ts : List TileNumbers) (ss : List Step) (cs : List PlacedNumbers) : Type 0 where
  pub few : length ts < most_tiles
  pub tiles : AllByRecursion (TileFits (kinds hs) n d) ts
  pub outline : OutlineFits (kinds hs) n ss
  pub room : length cs ≤ most_children
  pub children : AllByRecursion (PlacedFits n d) cs

pub record Shut (n d : ℕ) (hs : List Head) (ts : List TileNumbers) (depth : ℕ) (ps : List PlacedNumbers) : Type 0 where
  pub some : 0 < length ts
  pub few : length ts ≤ most_tiles
  pub tiles : AllByRecursion (TileFits (kinds hs) n d) ts
  pub deep : depth ≤ most_depth
  pub room : length ps ≤ most_seeds
  pub seeds : AllByRecursion (SeedFits (length ts) n d) ps

abbrev pub Fine : Shape → Type 0
Fine start = Unit {0}
Fine (ringed n d) = Ring n d
Fine (listed n d fs hs pss) = Base n d fs hs pss
Fine (tiled n d fs hs pss ts ss cs) = Base n d fs hs pss × Divided hs pss × Open n d hs ts ss cs
Fine (ended n d fs hs pss ts depth ps) = Base n d fs hs pss × Divided hs pss × Shut n d hs ts depth ps

-- a line leads from s to another shape
abbrev pub Next : Shape → Letter → List ℤ → Front → Type 0
Next s a zs g = (s' : Shape) × Fine s' × (g ≡ shape_front s') × (shape_lines s' ≡ shape_lines s ++ line a zs ∷ [])

no_order : (n d : ℕ) → Ring n d → n ≡ 0 → ⊥
no_order n d r e = omega arith

no_factor : (n d : ℕ) (fs : List ℤ) → Ring n d → Element d fs → length fs ≡ 0 → ⊥
no_factor n d fs r f e = omega (arith, f.0)

after_start : (a : Letter) (zs : List ℤ) (g : Front) → Place nothing a → Takes nothing a zs g → Next start a zs g
after_start letter_R zs g p (n, d, r, e, q) = (ringed n d, r, q, ap (λ t. line letter_R t ∷ []) (sym e))
after_start letter_I zs g p t = absurd (omega (arith, p.0))
after_start letter_L zs g p t = absurd (omega (arith, p.0))
after_start letter_S zs g p t = absurd (omega arith)
after_start letter_T zs g p t = absurd (omega (arith, p.0))
after_start letter_C zs g p t = absurd (omega (arith, p.0))
after_start letter_D zs g p t = absurd (omega arith)
after_start letter_P zs g p t = absurd (false≢true p.0)

after_ringed : (n d : ℕ) → Ring n d → (a : Letter) (zs : List ℤ) (g : Front) → Place (shape_front (ringed n d)) a → Takes (shape_front (ringed n d)) a zs g → Next (ringed n d) a zs g
after_ringed n d r letter_R zs g p t = absurd (no_order n d r p)
after_ringed n d r letter_I zs g p (f, q) = (listed n d zs [] [], record { ring = r; factor = f; few = omega arith; heads = tt; paired = omega arith; subdivisions = tt }, q, refl)
after_ringed n d r letter_L zs g p t = absurd (omega (arith, p.0))
after_ringed n d r letter_S zs g p t = absurd (omega arith)
after_ringed n d r letter_T zs g p t = absurd (omega (arith, p.0))
after_ringed n d r letter_C zs g p t = absurd (omega (arith, p.0))
after_ringed n d r letter_D zs g p t = absurd (omega arith)
after_ringed n d r letter_P zs g p t = absurd (false≢true p.0)

label_more : (n d : ℕ) (fs : List ℤ) (hs : List Head) (pss : List (List Part)) (h : Head) (zs : List ℤ) (g : Front) → Base n d fs hs pss → length pss ≡ 0 → length hs < most_labels
    → HeadFits d h → zs ≡ label_numbers h.arrowed h.length → g ≡ whole_front n d fs (hs ++ h ∷ []) pss [] [] [] None [] → Next (listed n d fs hs pss) letter_L zs g
label_more n d fs hs (p ∷ pss) h zs g b l m f e q = absurd (omega arith)
label_more n d fs hs [] h zs g b l m f e q = (
  listed n d fs (hs ++ h ∷ []) [],
  record { ring = b.ring; factor = b.factor; few = (let k = length_push hs h in omega arith); heads = All-push (HeadFits d) hs h b.heads f; paired = omega arith; subdivisions = tt },
  q,
  ap (λ t. ring_line n ∷ factor_line fs ∷ t) (append-nil _ ∙ map_push head_line hs h ∙ ap (λ t. map head_line hs ++ line letter_L t ∷ []) (sym e) ∙ ap (λ t. t ++ line letter_L zs ∷ []) (sym (append-nil (map head_line hs)))),
)

after_listed : (n d : ℕ) (fs : List ℤ) (hs : List Head) (pss : List (List Part)) → Base n d fs hs pss → (a : Letter) (zs : List ℤ) (g : Front) → Place (shape_front (listed n d fs hs pss)) a → Takes (shape_front (listed n d fs hs pss)) a zs g → Next (listed n d fs hs pss) a zs g
after_listed n d fs hs pss b letter_R zs g p t = absurd (no_order n d b.ring p)
after_listed n d fs hs pss b letter_I zs g p t = absurd (no_factor n d fs b.ring b.factor p.1)
after_listed n d fs hs pss b letter_L zs g p (h, f, e, q) = label_more n d fs hs pss h zs g b p.1 p.2 f e q
after_listed n d fs hs pss b letter_S zs g p (ps, f, e, q) = (
  listed n d fs hs (pss ++ ps ∷ []),
  record { ring = b.ring; factor = b.factor; few = b.few; heads = b.heads; paired = (let k = length_push pss ps in omega arith); subdivisions = All-push (SubdivisionFits (kinds hs)) pss ps b.subdivisions f },
  q,
  ap (λ t. ring_line n ∷ factor_line fs ∷ t) (ap (λ t. map head_line hs ++ t) (map_push subdivision_line pss ps ∙ ap (λ t. map subdivision_line pss ++ line letter_S t ∷ []) (sym e)) ∙ sym (append_assoc (map head_line hs) (map subdivision_line pss) (line letter_S zs ∷ []))),
)
after_listed n d fs hs pss b letter_T zs g p (ss, f, e, q) = (
  tiled n d fs hs pss [] ss [],
  (b, record { some = p.0; each = p.1 }, record { few = omega arith; tiles = tt; outline = f; room = omega arith; children = tt }),
  q,
  ap (λ t. ring_line n ∷ factor_line fs ∷ t) (ap (λ t. map head_line hs ++ (map subdivision_line pss ++ line letter_T t ∷ [])) (sym e) ∙ sym (append_assoc (map head_line hs) (map subdivision_line pss) (line letter_T zs ∷ []))),
)
after_listed n d fs hs pss b letter_C zs g p t = absurd (omega (arith, p.0))
after_listed n d fs hs pss b letter_D zs g p t = absurd (omega arith)
after_listed n d fs hs pss b letter_P zs g p t = absurd (false≢true p.0)

-- lines of tiles with one more
tiles_push : (ts : List TileNumbers) (t : TileNumbers) (more : List Line) → flat_map tile_lines (ts ++ t ∷ []) ++ more ≡ flat_map tile_lines ts ++ (tile_lines t ++ more)
tiles_push [] t more = ap (λ x. x ++ more) (append-nil (tile_lines t))
tiles_push (x ∷ ts) t more = append_assoc (tile_lines x) (flat_map tile_lines (ts ++ t ∷ [])) more ∙ ap (λ y. tile_lines x ++ y) (tiles_push ts t more) ∙ sym (append_assoc (tile_lines x) (flat_map tile_lines ts) (tile_lines t ++ more))

-- under the first lines
under : (n : ℕ) (fs : List ℤ) (hs : List Head) (pss : List (List Part)) (x y : List Line) (l : Line) → x ≡ y ++ l ∷ []
    → ◌≡◌ {A = List Line} (ring_line n ∷ factor_line fs ∷ (map head_line hs ++ (map subdivision_line pss ++ x))) ((ring_line n ∷ factor_line fs ∷ (map head_line hs ++ (map subdivision_line pss ++ y))) ++ l ∷ [])
under n fs hs pss x y l e = ap (λ t. ring_line n ∷ factor_line fs ∷ t)
    (ap (λ t. map head_line hs ++ (map subdivision_line pss ++ t)) e ∙ ap (λ t. map head_line hs ++ t) (sym (append_assoc (map subdivision_line pss) y (l ∷ []))) ∙ sym (append_assoc (map head_line hs) (map subdivision_line pss ++ y) (l ∷ [])))

outline_some : (ks : List Bool) (n : ℕ) (ss : List Step) → OutlineFits ks n ss → length ss ≡ 0 → ⊥
outline_some ks n ss f e = omega (arith, f.0)

no_label : (hs : List Head) (pss : List (List Part)) → Divided hs pss → length pss ≡ 0 → ⊥
no_label hs pss v e = omega (arith, v.some, v.each)

no_subdivision : (hs : List Head) (pss : List (List Part)) → Divided hs pss → length pss < length hs → ⊥
no_subdivision hs pss v e = omega (arith, v.each)

tile_more : (n d : ℕ) (hs : List Head) (ts : List TileNumbers) (ss : List Step) (cs : List PlacedNumbers) → Open n d hs ts ss cs → 0 < length cs → AllByRecursion (TileFits (kinds hs) n d) (ts ++ tile ss cs ∷ [])
tile_more n d hs ts ss cs o some = All-push (TileFits (kinds hs) n d) ts (tile ss cs) o.tiles (o.outline, (some, o.room, o.children))

after_tiled : (n d : ℕ) (fs : List ℤ) (hs : List Head) (pss : List (List Part)) (ts : List TileNumbers) (ss : List Step) (cs : List PlacedNumbers) → Base n d fs hs pss → Divided hs pss → Open n d hs ts ss cs
    → (a : Letter) (zs : List ℤ) (g : Front) → Place (shape_front (tiled n d fs hs pss ts ss cs)) a → Takes (shape_front (tiled n d fs hs pss ts ss cs)) a zs g → Next (tiled n d fs hs pss ts ss cs) a zs g
after_tiled n d fs hs pss ts ss cs b v o letter_R zs g p t = absurd (no_order n d b.ring p)
after_tiled n d fs hs pss ts ss cs b v o letter_I zs g p t = absurd (no_factor n d fs b.ring b.factor p.1)
after_tiled n d fs hs pss ts ss cs b v o letter_L zs g p t = absurd (no_label hs pss v p.1)
after_tiled n d fs hs pss ts ss cs b v o letter_S zs g p t = absurd (no_subdivision hs pss v p)
after_tiled n d fs hs pss ts ss cs b v o letter_T zs g p (rs, f, e, q) = ⊎_elim (λ k. absurd (outline_some (kinds hs) n ss o.outline k.0)) go p.2
  where
    go : (0 < length cs) × (length ts + 1 < most_tiles) → Next (tiled n d fs hs pss ts ss cs) letter_T zs g
    go (some, room) = (
      tiled n d fs hs pss (ts ++ tile ss cs ∷ []) rs [],
      (b, v, record { few = (let k = length_push ts (tile ss cs) in omega arith); tiles = tile_more n d hs ts ss cs o some; outline = f; room = omega arith; children = tt }),
      q ∙ ap (λ x. whole_front n d fs hs pss (ts ++ x) rs [] None []) (opened_some ss cs (outline_some (kinds hs) n ss o.outline)),
      under n fs hs pss _ (flat_map tile_lines ts ++ tile_lines (tile ss cs)) (line letter_T zs)
          (tiles_push ts (tile ss cs) (outline_line rs ∷ []) ∙ sym (append_assoc (flat_map tile_lines ts) (tile_lines (tile ss cs)) (outline_line rs ∷ [])) ∙ ap (λ x. (flat_map tile_lines ts ++ tile_lines (tile ss cs)) ++ line letter_T x ∷ []) (sym e)),
    )
after_tiled n d fs hs pss ts ss cs b v o letter_C zs g p (c, f, e, q) = (
  tiled n d fs hs pss ts ss (cs ++ c ∷ []),
  (b, v, record { few = o.few; tiles = o.tiles; outline = o.outline; room = (let k = length_push cs c in omega (arith, p.1)); children = All-push (PlacedFits n d) cs c o.children f }),
  q,
  under n fs hs pss _ (flat_map tile_lines ts ++ tile_lines (tile ss cs)) (line letter_C zs)
      (ap (λ x. flat_map tile_lines ts ++ outline_line ss ∷ x) (map_push child_line cs c ∙ ap (λ x. map child_line cs ++ line letter_C x ∷ []) (sym e)) ∙ sym (append_assoc (flat_map tile_lines ts) (tile_lines (tile ss cs)) (line letter_C zs ∷ []))),
)
after_tiled n d fs hs pss ts ss cs b v o letter_D zs g p (depth, f, e, q) = (
  ended n d fs hs pss (ts ++ tile ss cs ∷ []) depth [],
  (b, v, record { some = (let k = length_push ts (tile ss cs) in omega arith); few = (let k = length_push ts (tile ss cs) in omega (arith, o.few)); tiles = tile_more n d hs ts ss cs o p; deep = f; room = omega arith; seeds = tt }),
  q ∙ ap (λ x. whole_front n d fs hs pss (ts ++ x) [] [] (Some depth) []) (opened_some ss cs (outline_some (kinds hs) n ss o.outline)),
  under n fs hs pss _ (flat_map tile_lines ts ++ tile_lines (tile ss cs)) (line letter_D zs)
      (tiles_push ts (tile ss cs) (depth_line depth ∷ []) ∙ sym (append_assoc (flat_map tile_lines ts) (tile_lines (tile ss cs)) (depth_line depth ∷ [])) ∙ ap (λ x. (flat_map tile_lines ts ++ tile_lines (tile ss cs)) ++ line letter_D x ∷ []) (sym e)),
)
after_tiled n d fs hs pss ts ss cs b v o letter_P zs g p t = absurd (false≢true p.0)

after_ended : (n d : ℕ) (fs : List ℤ) (hs : List Head) (pss : List (List Part)) (ts : List TileNumbers) (depth : ℕ) (ps : List PlacedNumbers) → Base n d fs hs pss → Divided hs pss → Shut n d hs ts depth ps
    → (a : Letter) (zs : List ℤ) (g : Front) → Place (shape_front (ended n d fs hs pss ts depth ps)) a → Takes (shape_front (ended n d fs hs pss ts depth ps)) a zs g → Next (ended n d fs hs pss ts depth ps) a zs g
after_ended n d fs hs pss ts depth ps b v o letter_R zs g p t = absurd (no_order n d b.ring p)
after_ended n d fs hs pss ts depth ps b v o letter_I zs g p t = absurd (no_factor n d fs b.ring b.factor p.1)
after_ended n d fs hs pss ts depth ps b v o letter_L zs g p t = absurd (no_label hs pss v p.1)
after_ended n d fs hs pss ts depth ps b v o letter_S zs g p t = absurd (no_subdivision hs pss v p)
after_ended n d fs hs pss ts depth ps b v o letter_T zs g p t = ⊎_elim (λ k. absurd (omega (arith, k.1, o.some))) (λ k. absurd (omega (arith, k.0))) p.2
after_ended n d fs hs pss ts depth ps b v o letter_C zs g p t = absurd (omega (arith, p.0))
after_ended n d fs hs pss ts depth ps b v o letter_D zs g p t = absurd (omega arith)
after_ended n d fs hs pss ts depth ps b v o letter_P zs g p (c, f, e, q) = (
  ended n d fs hs pss ts depth (ps ++ c ∷ []),
  (b, v, record { some = o.some; few = o.few; tiles = o.tiles; deep = o.deep; room = (let k = length_push ps c in omega (arith, p.1)); seeds = All-push (SeedFits (length ts) n d) ps c o.seeds f }),
  q,
  under n fs hs pss _ (flat_map tile_lines ts ++ depth_line depth ∷ map seed_line ps) (line letter_P zs)
      (ap (λ x. flat_map tile_lines ts ++ depth_line depth ∷ x) (map_push seed_line ps c ∙ ap (λ x. map seed_line ps ++ line letter_P x ∷ []) (sym e)) ∙ sym (append_assoc (flat_map tile_lines ts) (depth_line depth ∷ map seed_line ps) (line letter_P zs ∷ []))),
)

after : (s : Shape) → Fine s → (a : Letter) (zs : List ℤ) (g : Front) → Place (shape_front s) a → Takes (shape_front s) a zs g → Next s a zs g
after start x a zs g p t = after_start a zs g p t
after (ringed n d) x a zs g p t = after_ringed n d x a zs g p t
after (listed n d fs hs pss) x a zs g p t = after_listed n d fs hs pss x a zs g p t
after (tiled n d fs hs pss ts ss cs) x a zs g p t = after_tiled n d fs hs pss ts ss cs x.0 x.1 x.2 a zs g p t
after (ended n d fs hs pss ts depth ps) x a zs g p t = after_ended n d fs hs pss ts depth ps x.0 x.1 x.2 a zs g p t

-- lines lead from shape to shape
pub shaped_by : (ls : List Line) (s : Shape) → Fine s → (f : Front) → Leads (shape_front s) ls f → (s' : Shape) × Fine s' × (f ≡ shape_front s') × (shape_lines s' ≡ shape_lines s ++ ls)
shaped_by [] s x f e = (s, x, sym e, sym (append-nil (shape_lines s)))
shaped_by (l ∷ ls) s x f (h, (p, t), k) =
    let u = after s x l.letter l.numbers h p t in
    let w = shaped_by ls u.0 u.1 f (subst (λ y. Leads y ls f) u.2 k) in
    (w.0, w.1, w.2, w.3 ∙ ap (λ y. y ++ ls) u.3 ∙ append_assoc (shape_lines s) (l ∷ []) ls)

-- labels with their subdivisions
labelled_lines : (hs : List Head) (pss : List (List Part)) → length pss ≡ length hs → map label_line (labelled hs pss) ≡ map head_line hs
labelled_lines [] [] e = refl
labelled_lines [] (ps ∷ pss) e = absurd (omega arith)
labelled_lines (h ∷ hs) [] e = absurd (omega arith)
labelled_lines (h ∷ hs) (ps ∷ pss) e = ap (λ t. head_line h ∷ t) (labelled_lines hs pss (omega arith))

labelled_subdivisions : (hs : List Head) (pss : List (List Part)) → length pss ≡ length hs → map (λ (l : LabelNumbers). subdivision_line l.subdivision) (labelled hs pss) ≡ map subdivision_line pss
labelled_subdivisions [] [] e = refl
labelled_subdivisions [] (ps ∷ pss) e = absurd (omega arith)
labelled_subdivisions (h ∷ hs) [] e = absurd (omega arith)
labelled_subdivisions (h ∷ hs) (ps ∷ pss) e = ap (λ t. subdivision_line ps ∷ t) (labelled_subdivisions hs pss (omega arith))

labelled_kinds : (hs : List Head) (pss : List (List Part)) → length pss ≡ length hs → kinds_of (labelled hs pss) ≡ kinds hs
labelled_kinds [] [] e = refl
labelled_kinds [] (ps ∷ pss) e = absurd (omega arith)
labelled_kinds (h ∷ hs) [] e = absurd (omega arith)
labelled_kinds (h ∷ hs) (ps ∷ pss) e = ap (λ t. h.arrowed ∷ t) (labelled_kinds hs pss (omega arith))

pub labelled_length : (hs : List Head) (pss : List (List Part)) → length pss ≡ length hs → length (labelled hs pss) ≡ length hs
labelled_length [] [] e = refl
labelled_length [] (ps ∷ pss) e = absurd (omega arith)
labelled_length (h ∷ hs) [] e = absurd (omega arith)
labelled_length (h ∷ hs) (ps ∷ pss) e = let k = labelled_length hs pss (omega arith) in omega arith

labelled_fit : (ks : List Bool) (d : ℕ) (hs : List Head) (pss : List (List Part)) → length pss ≡ length hs → AllByRecursion (HeadFits d) hs → AllByRecursion (SubdivisionFits ks) pss → AllByRecursion (LabelFits ks d) (labelled hs pss)
labelled_fit ks d [] pss e a b = tt
labelled_fit ks d (h ∷ hs) [] e a b = absurd (omega arith)
labelled_fit ks d (h ∷ hs) (ps ∷ pss) e a b = ((a.0, b.0), labelled_fit ks d hs pss (omega arith) a.1 b.1)

-- what a complete front says: a job whose lines are those that led to it
pub record Ends (f : Front) (ls : List Line) : Type 0 where
  pub shaped : Shaped (job_of f)
  pub lines : ls ≡ lines_of (job_of f)
  pub labels : length f.heads ≡ length (job_of f).labels
  pub paired : length f.subdivisions ≤ length f.heads

end_shape : (s : Shape) → Fine s → Complete (shape_front s) → Ends (shape_front s) (shape_lines s)
end_shape start x k = absurd (omega arith)
end_shape (ringed n d) x k = absurd (omega arith)
end_shape (listed n d fs hs pss) x k = absurd (omega arith)
end_shape (tiled n d fs hs pss ts ss cs) x k = absurd (omega arith)
end_shape (ended n d fs hs pss ts depth ps) (b, v, o) k =
    let e = labelled_kinds hs pss v.each in
    let n' = labelled_length hs pss v.each in
    record {
      shaped = record {
        ring = b.ring;
        factor = b.factor;
        some_labels = omega (arith, v.some);
        few_labels = omega (arith, b.few);
        labels = subst (λ ks. AllByRecursion (LabelFits ks d) (labelled hs pss)) (sym e) (labelled_fit (kinds hs) d hs pss v.each b.heads b.subdivisions);
        some_tiles = o.some;
        few_tiles = o.few;
        tiles = subst (λ ks. AllByRecursion (TileFits ks n d) ts) (sym e) o.tiles;
        depth = o.deep;
        some_seeds = k;
        few_seeds = o.room;
        seeds = o.seeds;
      };
      lines = ap (λ t. ring_line n ∷ factor_line fs ∷ t) (ap₂ (λ x y. x ++ (y ++ (flat_map tile_lines ts ++ depth_line depth ∷ map seed_line ps))) (sym (labelled_lines hs pss v.each)) (sym (labelled_subdivisions hs pss v.each)));
      labels = sym n';
      paired = b.paired;
    }

pub complete_ends : (ls : List Line) (f : Front) → Leads nothing ls f → Complete f → Ends f ls
complete_ends ls f k c =
    let w = shaped_by ls start tt f k in
    let r = end_shape w.0 w.1 (subst Complete w.2 c) in
    subst (λ x. Ends x ls) (sym w.2) (subst (Ends (shape_front w.0)) w.3 r)
