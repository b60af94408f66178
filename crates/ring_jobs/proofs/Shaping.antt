-- What a job in range has over any ring, and what stays when its lists of coefficients are put through a function.
use Rattle.std.proofs.Common.{◌≡◌, ℕ, zero, suc, ◌<◌, Bool, List, [], ◌∷◌, map, length, get_or, ℤ, pos, IsErrAnd, Ok, Err, vec_items, Result, sym, refl, ap, ◌∙◌, subst, ap₂, arith, MatchResult}
use mathlib.Core.Logic.{∥∥₁_elim, ∥∥₁_prop}
use Rattle.std.specs.List.{AllByRecursion}
use Rattle.std.proofs.lemmas.List.{length-map}
use Rattle.std.proofs.ByRecursion.{All-map, All-weaker}
use Rattle.exact.specs.Cyclotomic.{Cyclotomic, CyclotomicLaws}
use Rattle.exact.specs.JobNumbers.{LabelNumbers, PlacedNumbers, TileNumbers, JobNumbers}
use Rattle.exact.specs.Sizes.{Between, Within}
use Rattle.exact.proofs.Sizes.{abs_between}
use Rattle.rings.specs.Plane.{plane_bound, fitted_from}
use Rattle.job_rows.specs.declared.Label.{Label}
use Rattle.job_rows.specs.declared.Placed.{Placed}
use Rattle.job_rows.specs.declared.Tile.{Tile}
use Rattle.job_rows.specs.declared.Book.{Book}
use Rattle.edges.specs.declared.fault.ChainFault.{ChainFault}
use Rattle.edges.specs.declared.fault.ChainFault.TheVariants.{Ring, Memory}
use Rattle.edges.specs.Answers.{Excused}
use Rattle.jobs.specs.Ranges.{Coefficient, LabelFits, TileFits, PlacedFits, InRange, kinds_of}
use Rattle.job_rows.specs.Shapes.{label_with, placed_with, tile_with, numbers_with}
use Rattle.ring_jobs.specs.Shapes.{Branching}
use Rattle.ring_jobs.specs.Fitted.{fitted, relisted_label, relisted_placed, relisted_tile, relisted, fitted_job}
use Rattle.ring_jobs.specs.RingJobs.{ListedOnPlane, LabelOnPlane, PlacedOnPlane, TileOnPlane}
use Rattle.ring_jobs.proofs.Reading.{fitted_length, fitted_same, placed_same}
use Rattle.ring_jobs.proofs.Rowwise.{tile_same, label_same}

pub job_same : (n d depth : ℕ) (f f' : List ℤ) (ls ls' : List LabelNumbers) (ts ts' : List TileNumbers) (ps ps' : List PlacedNumbers) → f ≡ f' → ls ≡ ls' → ts ≡ ts' → ps ≡ ps' →
    ◌≡◌ {A = JobNumbers} (record { order = n; rank = d; factor = f; labels = ls; tiles = ts; depth = depth; seeds = ps }) (record { order = n; rank = d; factor = f'; labels = ls'; tiles = ts'; depth = depth; seeds = ps' })
job_same n d depth f f' ls ls' ts ts' ps ps' a b c e = λ i. record { order = n; rank = d; factor = a i; labels = b i; tiles = c i; depth = depth; seeds = e i }

pub mapped : {A B : Type 0} → (A → B) → ∥ A ∥₁ → ∥ B ∥₁
mapped f a = ∥∥₁_elim a ∥∥₁_prop (λ x. ∣ f x ∣₁)

-- ---- lists of coefficients put through a function
pub all_unmap : {X Y : Type 0} (P : Y → Type 0) (f : X → Y) (xs : List X) → AllByRecursion P (map f xs) → AllByRecursion (λ x. P (f x)) xs
all_unmap P f [] a = tt
all_unmap P f (x ∷ xs) a = (a.0, all_unmap P f xs a.1)

module _ (f : List ℤ → List ℤ) where
  named_on : (n : ℕ) (ps : List PlacedNumbers) → AllByRecursion (λ (p : PlacedNumbers). p.tile < n) ps → AllByRecursion (λ (p : PlacedNumbers). p.tile < n) (map (relisted_placed f) ps)
  named_on n ps a = All-map (λ (p : PlacedNumbers). p.tile < n) (relisted_placed f) ps a

  named_back : (n : ℕ) (ps : List PlacedNumbers) → AllByRecursion (λ (p : PlacedNumbers). p.tile < n) (map (relisted_placed f) ps) → AllByRecursion (λ (p : PlacedNumbers). p.tile < n) ps
  named_back n ps a = all_unmap (λ (p : PlacedNumbers). p.tile < n) (relisted_placed f) ps a

  module _ (N : JobNumbers) where
    many : length (map (relisted_tile f) N.tiles) ≡ length N.tiles
    many = length-map N.tiles (relisted_tile f)

    pub branching_on : Branching N → Branching (relisted f N)
    unfolding relisted
    branching_on b = record {
      shallow = b.shallow;
      seeded = subst (◌<◌ 0) (sym (length-map N.seeds (relisted_placed f))) b.seeded;
      seeds_named = subst (λ n. AllByRecursion (λ (p : PlacedNumbers). p.tile < n) (map (relisted_placed f) N.seeds)) (sym many) (named_on _ N.seeds b.seeds_named);
      families = All-map _ (relisted_tile f) N.tiles (All-weaker _ _ (λ (t : TileNumbers) h. subst (◌<◌ 0) (sym (length-map t.children (relisted_placed f))) h) N.tiles b.families);
      children_named = All-map _ (relisted_tile f) N.tiles (All-weaker _ _ (λ (t : TileNumbers) h. subst (λ n. AllByRecursion (λ (p : PlacedNumbers). p.tile < n) (map (relisted_placed f) t.children)) (sym many) (named_on _ t.children h)) N.tiles b.children_named);
    }

    pub branching_back : Branching (relisted f N) → Branching N
    unfolding relisted
    branching_back b = record {
      shallow = b.shallow;
      seeded = subst (◌<◌ 0) (length-map N.seeds (relisted_placed f)) b.seeded;
      seeds_named = subst (λ n. AllByRecursion (λ (p : PlacedNumbers). p.tile < n) N.seeds) many (named_back _ N.seeds b.seeds_named);
      families = All-weaker (λ (t : TileNumbers). 0 < length (map (relisted_placed f) t.children)) (λ (t : TileNumbers). 0 < length t.children) (λ (t : TileNumbers) h. subst (◌<◌ 0) (length-map t.children (relisted_placed f)) h) N.tiles (all_unmap _ (relisted_tile f) N.tiles b.families);
      children_named = All-weaker (λ (t : TileNumbers). AllByRecursion (λ (p : PlacedNumbers). p.tile < length (map (relisted_tile f) N.tiles)) (map (relisted_placed f) t.children)) (λ (t : TileNumbers). AllByRecursion (λ (p : PlacedNumbers). p.tile < length N.tiles) t.children) (λ (t : TileNumbers) h. subst (λ n. AllByRecursion (λ (p : PlacedNumbers). p.tile < n) t.children) many (named_back _ t.children h)) N.tiles (all_unmap _ (relisted_tile f) N.tiles b.children_named);
    }

  -- where all lists stay as they are, so does the job
  map_same : {X : Type 0} (h : X → X) (P : X → Type 0) → ((x : X) → P x → h x ≡ x) → (xs : List X) → AllByRecursion P xs → map h xs ≡ xs
  map_same h P k [] a = refl
  map_same h P k (x ∷ xs) a = ap₂ ◌∷◌ (k x a.0) (map_same h P k xs a.1)

  -- ---- rows over a ring
  module _ {S : Type 0} (listed : S → List ℤ) where
    rows_relisted : (ps : List (Placed S)) → map (placed_with (λ z. f (listed z))) ps ≡ map (relisted_placed f) (map (placed_with listed) ps)
    rows_relisted [] = refl
    rows_relisted (p ∷ ps) = ap (◌∷◌ (placed_with (λ z. f (listed z)) p)) (rows_relisted ps)

    labels_relisted : (ls : List (Label S)) → map (label_with (λ z. f (listed z))) ls ≡ map (relisted_label f) (map (label_with listed) ls)
    labels_relisted [] = refl
    labels_relisted (l ∷ ls) = ap (◌∷◌ (label_with (λ z. f (listed z)) l)) (labels_relisted ls)

    tiles_relisted : (ts : List (Tile S)) → map (tile_with (λ z. f (listed z))) ts ≡ map (relisted_tile f) (map (tile_with listed) ts)
    tiles_relisted [] = refl
    tiles_relisted (t ∷ ts) = ap₂ ◌∷◌ (tile_same _ _ _ _ refl (rows_relisted (vec_items t.children))) (tiles_relisted ts)

    pub numbers_relisted : (n d : ℕ) (b : Book S) (depth : ℕ) (ps : List (Placed S)) → numbers_with (λ z. f (listed z)) n d b depth ps ≡ relisted f (numbers_with listed n d b depth ps)
    unfolding relisted
    numbers_relisted n d b depth ps = job_same _ _ _ _ _ _ _ _ _ _ _ refl (labels_relisted (vec_items b.labels)) (tiles_relisted (vec_items b.tiles)) (rows_relisted ps)

-- ---- what a job in range has
pub ranged_branching : (N : JobNumbers) → InRange N → Branching N
ranged_branching N r = record {
  shallow = r.shaped.depth;
  seeded = r.shaped.some_seeds;
  seeds_named = All-weaker _ _ (λ p h. h.0) N.seeds r.shaped.seeds;
  families = All-weaker _ _ (λ t h. h.1.0) N.tiles r.shaped.tiles;
  children_named = r.named;
}

pub fitted_job_same : (N : JobNumbers) → InRange N → (d : ℕ) → N.rank ≡ d → fitted_job d N ≡ N
unfolding relisted
fitted_job_same N r d e =
    let P : PlacedNumbers → Type 0 = PlacedFits N.order N.rank in
    let s : (p : PlacedNumbers) → P p → relisted_placed (fitted d) p ≡ p = λ p h. placed_same _ _ _ _ _ (fitted_same d p.place (h.1.0 ∙ e)) in
    job_same _ _ _ _ _ _ _ _ _ _ _ (fitted_same d N.factor (r.shaped.factor.0 ∙ e))
    (map_same (fitted d) (relisted_label (fitted d)) (LabelFits (kinds_of N.labels) N.rank) (λ l h. label_same _ _ _ _ _ (fitted_same d l.length (h.0.0 ∙ e)) refl) N.labels r.shaped.labels)
    (map_same (fitted d) (relisted_tile (fitted d)) (TileFits (kinds_of N.labels) N.order N.rank) (λ t h. tile_same _ _ _ _ refl (map_same (fitted d) (relisted_placed (fitted d)) P s t.children h.1.2)) N.tiles r.shaped.tiles)
    (map_same (fitted d) (relisted_placed (fitted d)) P s N.seeds (All-weaker _ _ (λ p h. h.1) N.seeds r.shaped.seeds))

-- ---- its elements are on the plane
coefficient_size : (l : List ℤ) → AllByRecursion Coefficient l → (k : ℕ) → Between plane_bound (get_or l k (pos 0))
coefficient_size [] a k = (omega arith, omega arith)
coefficient_size (c ∷ l) a zero = abs_between plane_bound c (omega (arith, a.0))
coefficient_size (c ∷ l) a (suc k) = coefficient_size l a.1 k

fitted_within : (l : List ℤ) → AllByRecursion Coefficient l → (k d : ℕ) → Within plane_bound (fitted_from k d l)
fitted_within l a k zero = tt
fitted_within l a k (suc d) = (coefficient_size l a k, fitted_within l a (suc k) d)

module _ (E : Cyclotomic) (L : CyclotomicLaws E) where
  pub element_on_plane : (l : List ℤ) → AllByRecursion Coefficient l → ListedOnPlane E l
  element_on_plane l a = subst (Within plane_bound) (sym (L.list_of (fitted E.d l) (fitted_length 0 E.d l))) (fitted_within l a 0 E.d)

  pub placed_on_plane : (n d : ℕ) (ps : List PlacedNumbers) → AllByRecursion (PlacedFits n d) ps → AllByRecursion (PlacedOnPlane E) ps
  placed_on_plane n d ps a = All-weaker _ _ (λ p h. element_on_plane p.place h.1.1) ps a

  pub tiles_on_plane : (kinds : List Bool) (n d : ℕ) (ts : List TileNumbers) → AllByRecursion (TileFits kinds n d) ts → AllByRecursion (TileOnPlane E) ts
  tiles_on_plane kinds n d ts a = All-weaker _ _ (λ t h. placed_on_plane n d t.children h.1.2) ts a

  pub labels_on_plane : (kinds : List Bool) (d : ℕ) (ls : List LabelNumbers) → AllByRecursion (LabelFits kinds d) ls → AllByRecursion (LabelOnPlane E) ls
  labels_on_plane kinds d ls a = All-weaker _ _ (λ l h. element_on_plane l.length h.0.1) ls a

-- ---- where nothing leaves the plane, only memory can be wanting
pub only_memory : {A : Type 0} (r : Result A ChainFault) (P : A → Type 0) (K : Type 0) (e : ChainFault) → ∥ K ∥₁ → Excused e K → IsErrAnd r (λ y. y ≡ e) → MatchResult r P (λ f. f ≡ Memory)
only_memory (Ok x) P K e k o h = absurd h
only_memory (Err y) P K (Ring f) k o h = absurd (∥∥₁_elim k (λ x y. absurd x) o.1)
only_memory (Err y) P K Memory k o h = h
