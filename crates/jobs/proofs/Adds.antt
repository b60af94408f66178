-- What adding a line to a front gives.
use Rattle.std.proofs.Common.{◌≡◌, ℕ, ◌≤◌, Bool, List, [], ◌∷◌, ◌++◌, map, length, ℤ, Err, Some, None, is_some, true, false, pos, ⊎_elim, vec_items, vec_len, ◌<◌, Option, sym, refl, ap, ◌∙◌, subst, ap₂, append-nil, arith}
use Rattle.std.specs.List.{flat_map}
use Rattle.exact.specs.JobNumbers.{TileNumbers, PlacedNumbers, Part, Step}
use Rattle.lines.specs.Letters.{Letter, letter_R, letter_I, letter_L, letter_S, letter_T, letter_C, letter_P}
use Rattle.jobs.specs.declared.draft.Head.{Head as HeadRow}
use Rattle.jobs.specs.declared.draft.Misfit.{Misfit}
use Rattle.jobs.specs.declared.draft.Misfit.TheVariants.{Place as Misplaced, Numbers, Memory}
use Rattle.std.specs.Global.{Vec}
use Rattle.std.specs.Option.{ForSome}
use Rattle.std.proofs.lemmas.Bool.{false≢true, true≢false}
use Rattle.std.proofs.lemmas.List.{length-map}
use Rattle.job_rows.specs.declared.Tile.{Tile}
use Rattle.job_rows.specs.Shapes.{step_of}
use Rattle.jobs.specs.Begun.{order_in, factor_in, outline_in, children_in}
use Rattle.jobs.specs.Drafts.{Added, Unfit, head_of}
use Rattle.job_rows.specs.Limits.{most_children}
use Rattle.jobs.specs.Rings.{order_of}
use Rattle.jobs.specs.declared.ring.NamedRing.{NamedRing}
use Rattle.jobs.specs.declared.ring.NamedRing.TheVariants.{Gaussian, Tenfold}
use Rattle.jobs.specs.Rows.{placed_of}
use Rattle.jobs.specs.Fronts.{Front, Head, Place, Takes, kinds, opened, closed}
use Rattle.jobs.specs.Ranges.{Element, PlacedFits, SubdivisionFits, OutlineFits}
use Rattle.jobs.specs.Spelled.{label_numbers, part_numbers, step_numbers, placed_numbers}
use Rattle.jobs.proofs.Series.{placed_unique}

-- numbers that name no ring
pub unfit_ring : (e : Misfit) (f g : Front) (zs : List ℤ) → f.order ≡ 0 → e ≡ Numbers → ((r : NamedRing) → zs ≡ pos (order_of r) ∷ [] → ⊥) → Added f letter_R zs (Err e) g
unfit_ring e f g zs p q h = subst (λ e. Added f letter_R zs (Err e) g) (sym q) (p, λ k t. ⊎_elim (λ r. h Gaussian (t.3 ∙ ap (λ n. pos n ∷ []) r.0)) (λ r. h Tenfold (t.3 ∙ ap (λ n. pos n ∷ []) r.0)) t.2)

pub no_ring_yet : (o : Option NamedRing) → is_some o ≡ false → order_in o ≡ 0
no_ring_yet None e = refl
no_ring_yet (Some r) e = absurd (true≢false e)

-- n and d are the front's order and rank
pub unfit_label : (e : Misfit) (f g : Front) (d : ℕ) (zs : List ℤ) → Place f letter_L → d ≡ f.rank → Unfit ((b : Bool) (ys : List ℤ) → Element d ys → zs ≡ label_numbers b ys → ⊥) e → Added f letter_L zs (Err e) g
unfit_label Misplaced f g d zs p q h = absurd h
unfit_label Numbers f g d zs p q h = (p, λ k t. h t.0.arrowed t.0.length (subst (λ d. Element d t.0.length) (sym q) t.1) t.2)
unfit_label Memory f g d zs p q h = tt

pub unfit_factor : (e : Misfit) (f g : Front) (d : ℕ) (zs : List ℤ) → Place f letter_I → d ≡ f.rank → Unfit (Element d zs → ⊥) e → Added f letter_I zs (Err e) g
unfit_factor Misplaced f g d zs p q h = absurd h
unfit_factor Numbers f g d zs p q h = (p, λ k t. h (subst (λ d. Element d zs) (sym q) t.0))
unfit_factor Memory f g d zs p q h = tt

pub unfit_subdivision : (e : Misfit) (f g : Front) (ks : List Bool) (zs : List ℤ) → Place f letter_S → kinds f ≡ ks → Unfit ((ps : List Part) → SubdivisionFits ks ps → zs ≡ flat_map part_numbers ps → ⊥) e → Added f letter_S zs (Err e) g
unfit_subdivision Misplaced f g ks zs p k h = absurd h
unfit_subdivision Numbers f g ks zs p k h = (p, λ _ t. h t.0 (subst (λ ks. SubdivisionFits ks t.0) k t.1) t.2)
unfit_subdivision Memory f g ks zs p k h = tt

pub unfit_outline : (e : Misfit) (f g : Front) (ks : List Bool) (n : ℕ) (zs : List ℤ) → Place f letter_T → kinds f ≡ ks → n ≡ f.order → Unfit ((ss : List Step) → OutlineFits ks n ss → zs ≡ flat_map step_numbers ss → ⊥) e → Added f letter_T zs (Err e) g
unfit_outline Misplaced f g ks n zs p k q h = absurd h
unfit_outline Numbers f g ks n zs p k q h = (p, λ _ t. h t.0 (subst (λ n. OutlineFits ks n t.0) (sym q) (subst (λ ks. OutlineFits ks f.order t.0) k t.1)) t.2)
unfit_outline Memory f g ks n zs p k q h = tt

pub placed_at : (n n' d d' : ℕ) (p : PlacedNumbers) → n ≡ n' → d ≡ d' → PlacedFits n d p → PlacedFits n' d' p
placed_at n n' d d' p q r h = subst (λ d. PlacedFits n' d p) r (subst (λ n. PlacedFits n d p) q h)

pub unfit_child : (e : Misfit) (f g : Front) (n d : ℕ) (zs : List ℤ) → Place f letter_C → n ≡ f.order → d ≡ f.rank → Unfit ((p : PlacedNumbers) → PlacedFits n d p → zs ≡ placed_numbers p → ⊥) e → Added f letter_C zs (Err e) g
unfit_child Misplaced f g n d zs p q r h = absurd h
unfit_child Numbers f g n d zs p q r h = (p, λ _ t. h t.0 (placed_at _ _ _ _ t.0 (sym q) (sym r) t.1) t.2)
unfit_child Memory f g n d zs p q r h = tt

pub unfit_seed : (e : Misfit) (f g : Front) (n d : ℕ) (zs : List ℤ) → Place f letter_P → n ≡ f.order → d ≡ f.rank → Unfit ((p : PlacedNumbers) → PlacedFits n d p → zs ≡ placed_numbers p → ⊥) e → Added f letter_P zs (Err e) g
unfit_seed Misplaced f g n d zs p q r h = absurd h
unfit_seed Numbers f g n d zs p q r h = (p, λ _ t. h t.0 (placed_at _ _ _ _ t.0 (sym q) (sym r) t.1.1) t.2)
unfit_seed Memory f g n d zs p q r h = tt

-- a seed that names no tile
pub no_tile : (f g : Front) (zs : List ℤ) (q : PlacedNumbers) → zs ≡ placed_numbers q → length f.tiles ≤ q.tile → Takes f letter_P zs g → ⊥
no_tile f g zs q e l t = let u = ap (λ (p : PlacedNumbers). p.tile) (placed_unique q t.0 (sym e ∙ t.2)) in omega (arith, t.1.0)

pub no_memory : (e : Misfit) (f g : Front) (a : Letter) (zs : List ℤ) → e ≡ Memory → Added f a zs (Err e) g
no_memory e f g a zs m = subst (λ x. Added f a zs (Err x) g) (sym m) tt

-- a child of a tile that is begun
pub child_has_place : (o : Option (Tile (Vec ℤ))) (t : Tile (Vec ℤ)) → o ≡ Some t → 0 < vec_len t.outline → length (vec_items t.children) < most_children → (0 < length (outline_in o)) × (length (children_in o) < most_children)
child_has_place o t e s l =
    let n = length-map (vec_items t.outline) step_of in
    let m = length-map (vec_items t.children) placed_of in
    subst (λ o. (0 < length (outline_in o)) × (length (children_in o) < most_children)) (sym e) (omega arith, omega arith)

-- a factor that is there has coefficients
pub label_has_place : (o : Option (Vec ℤ)) → ForSome o (λ v. 0 < vec_len v) → is_some o ≡ true → 0 < length (factor_in o)
label_has_place None h e = absurd (false≢true e)
label_has_place (Some v) h e = let l = h v refl in omega arith

-- the open tile
pub opened_none : (ss : List Step) (cs : List PlacedNumbers) → length ss ≡ 0 → opened ss cs ≡ []
opened_none [] cs e = refl
opened_none (s ∷ ss) cs e = absurd (omega arith)

pub opened_some : (ss : List Step) (cs : List PlacedNumbers) → (length ss ≡ 0 → ⊥) → opened ss cs ≡ record { outline = ss; children = cs } ∷ []
opened_some [] cs h = absurd (h refl)
opened_some (s ∷ ss) cs h = refl

abbrev pub set_heads : Front → List Head → Front
set_heads f hs = record { order = f.order; rank = f.rank; factor = f.factor; heads = hs; subdivisions = f.subdivisions; tiles = f.tiles; outline = f.outline; children = f.children; depth = f.depth; seeds = f.seeds }

abbrev pub set_subdivisions : Front → List (List Part) → Front
set_subdivisions f ps = record { order = f.order; rank = f.rank; factor = f.factor; heads = f.heads; subdivisions = ps; tiles = f.tiles; outline = f.outline; children = f.children; depth = f.depth; seeds = f.seeds }

abbrev pub set_children : Front → List PlacedNumbers → Front
set_children f cs = record { order = f.order; rank = f.rank; factor = f.factor; heads = f.heads; subdivisions = f.subdivisions; tiles = f.tiles; outline = f.outline; children = cs; depth = f.depth; seeds = f.seeds }

abbrev pub set_seeds : Front → List PlacedNumbers → Front
set_seeds f cs = record { order = f.order; rank = f.rank; factor = f.factor; heads = f.heads; subdivisions = f.subdivisions; tiles = f.tiles; outline = f.outline; children = f.children; depth = f.depth; seeds = cs }

abbrev pub set_outline : Front → List Step → Front
set_outline f ss = record { order = f.order; rank = f.rank; factor = f.factor; heads = f.heads; subdivisions = f.subdivisions; tiles = f.tiles; outline = ss; children = f.children; depth = f.depth; seeds = f.seeds }

abbrev pub set_depth : Front → Option ℕ → Front
set_depth f d = record { order = f.order; rank = f.rank; factor = f.factor; heads = f.heads; subdivisions = f.subdivisions; tiles = f.tiles; outline = f.outline; children = f.children; depth = d; seeds = f.seeds }

abbrev pub set_tiles : Front → List TileNumbers → List Step → List PlacedNumbers → Front
set_tiles f ts ss cs = record { order = f.order; rank = f.rank; factor = f.factor; heads = f.heads; subdivisions = f.subdivisions; tiles = ts; outline = ss; children = cs; depth = f.depth; seeds = f.seeds }

pub kinds_heads : (ls : List HeadRow) → map (λ (h : Head). h.arrowed) (map head_of ls) ≡ map (λ (l : HeadRow). l.arrowed) ls
kinds_heads [] = refl
kinds_heads (l ∷ ls) = ap (λ t. l.arrowed ∷ t) (kinds_heads ls)

pub closed_none : (f : Front) (ss' : List Step) (cs' : List PlacedNumbers) → length f.outline ≡ 0 → ss' ≡ [] → cs' ≡ [] → set_tiles f f.tiles ss' cs' ≡ closed f
closed_none f ss' cs' l p q =
    let a : f.tiles ≡ f.tiles ++ opened f.outline f.children = sym (append-nil f.tiles) ∙ ap (λ t. f.tiles ++ t) (sym (opened_none f.outline f.children l)) in
    λ i. set_tiles f (a i) (p i) (q i)

pub closed_some : (f : Front) (ts : List TileNumbers) (ss ss' : List Step) (cs cs' : List PlacedNumbers) → (length ss ≡ 0 → ⊥) → ts ≡ f.tiles ++ record { outline = ss; children = cs } ∷ [] → ss ≡ f.outline → cs ≡ f.children → ss' ≡ [] → cs' ≡ [] → set_tiles f ts ss' cs' ≡ closed f
closed_some f ts ss ss' cs cs' l t s c p q =
    let a : ts ≡ f.tiles ++ opened f.outline f.children = t ∙ ap (λ x. f.tiles ++ x) (sym (opened_some ss cs l) ∙ ap₂ opened s c) in
    λ i. set_tiles f (a i) (p i) (q i)
