-- The sizes of all that the check of a small book works out.
use Rattle.std.proofs.Common.{◌≡◌, ℕ, suc, ◌+◌, ◌*◌, ◌≤◌, Bool, true, false, cond, List, [], ◌∷◌, length, ℤ, refl, ap, subst, arith}
use mathlib.Core.List.{flat_map}
use Rattle.std.specs.List.{AllByRecursion}
use Rattle.std.proofs.ByRecursion.{All-map, All-append, All-weaker}
use Rattle.exact.specs.Cyclotomic.{Cyclotomic, CyclotomicLaws, power}
use Rattle.exact.specs.JobNumbers.{Part, Step}
use Rattle.exact.specs.Sizes.{Within, SizeLaws}
use Rattle.exact.specs.Sweeps.{sweep_through}
use Rattle.exact.proofs.Sizes.{within_wider, sweep_size}
use Rattle.rings.specs.Plane.{OnPlane, plane_bound, height_bound}
use Rattle.chains.specs.Counts.{scaled}
use Rattle.chains.specs.Books.{Book, Placement, label_at, tile_at}
use Rattle.chains.specs.Edges.{Edge, Chain, along, edge, step_count, walk, corners}
use Rattle.chains.specs.Inflation.{stepped, subdivided, inflate}
use Rattle.chains.specs.Placements.{image, placed, placed_entry, placed_edge, outline, placed_outline, outlines}
use Rattle.chains.specs.Accepted.{lengths, total_sweep}
use Rattle.job_rows.specs.Limits.{most_parts, most_steps}
use Rattle.edges.specs.Working.{KeptAlong, KeptImage, KeptForms, KeptWalk, KeptOutline, KeptPlacedOutline, KeptSubdivided}
use Rattle.book.specs.Points.{KeptFactor, KeptLength, KeptLengths, KeptSubdivision, KeptRound, KeptBalance}
use Rattle.book.proofs.Added.{zero_within}
use Rattle.book.proofs.Short.{stepped_length}
use Rattle.book.proofs.Tests.{first_power}
use Rattle.small_books.proofs.Ones.{one_within}

-- the starts of all edges of a chain are at most m in size
abbrev StartsWithin : (E : Cyclotomic) → ℕ → Chain E → Type 0
StartsWithin E m c = AllByRecursion (λ x. Within m (E.list x.what.start)) c

module _ (E : Cyclotomic) (L : CyclotomicLaws E) (Z : SizeLaws E) (B : Book E) where
  fits : (s : ℕ) (x : E.Elem) → s ≤ plane_bound → Within s (E.list x) → OnPlane E x
  fits s x h w = within_wider s plane_bound (E.list x) h w

  module _ (few : (t : ℕ) → length (tile_at B t).outline ≤ most_steps) (short : (e : ℕ) → length (label_at B e).subdivision ≤ most_parts)
      (F : Within 32 (E.list B.factor)) (len : (e : ℕ) → Within 32 (E.list (label_at B e).length)) where
    -- ---- labels
    turned : (e j : ℕ) → Within 64 (E.list (E.mul (power E j) (label_at B e).length))
    turned e j = Z.turn_size j 32 _ (len e)

    raised : (s : ℕ) (x : E.Elem) → 2 * s ≤ plane_bound → Within s (E.list x) → OnPlane E (E.mul E.zeta x)
    raised s x h w = subst (OnPlane E) (first_power E L x) (fits (2 * s) _ h (Z.turn_size 1 s x w))

    pub kept_factor : KeptFactor E B
    kept_factor =
        let less = Z.sum_size 32 1 _ _ F (Z.neg_size 1 _ (one_within E L)) in
        record { conjugate = fits 64 _ (omega arith) (Z.conj_size 32 _ F); less_one = fits 33 _ (omega arith) less; raised = raised 33 _ (omega arith) less }

    pub kept_length : (e : ℕ) → KeptLength E B e
    kept_length e = record { conjugate = fits 64 _ (omega arith) (Z.conj_size 32 _ (len e)); raised = raised 32 _ (omega arith) (len e) }

    lengths_size : (ps : List Part) → Within (32 * length ps) (E.list (lengths E B ps))
    unfolding lengths
    lengths_size [] = within_wider 0 (32 * 0) _ (omega arith) (zero_within E L)
    lengths_size (p ∷ ps) = within_wider (32 + 32 * length ps) (32 * length (p ∷ ps)) _ (omega arith) (Z.sum_size 32 (32 * length ps) _ _ (len p.label) (lengths_size ps))

    kept_lengths : (ps : List Part) → length ps ≤ most_parts → KeptLengths E B ps
    unfolding KeptLengths
    kept_lengths [] h = tt
    kept_lengths (p ∷ ps) h = (fits (32 * length (p ∷ ps)) _ (omega arith) (lengths_size (p ∷ ps)), kept_lengths ps (omega arith))

    pub kept_subdivision : (e : ℕ) → KeptSubdivision E B e
    kept_subdivision e = record { sums = kept_lengths (label_at B e).subdivision (short e); stretched = fits 8192 _ (omega arith) (Z.mul_size 32 32 _ _ F (len e)) }

    -- ---- walks
    along_size : (s : ℕ) (q : E.Elem) (e j : ℕ) → Within s (E.list q) → Within (s + 64) (E.list (along E B e j q))
    unfolding along
    along_size s q e j w = Z.sum_size s 64 q _ w (turned e j)

    kept_along : (s : ℕ) (q : E.Elem) (e j : ℕ) → s + 64 ≤ plane_bound → Within s (E.list q) → KeptAlong E B e j q
    kept_along s q e j h w = (fits 64 _ (omega arith) (turned e j), fits (s + 64) _ h (along_size s q e j w))

    kept_walk : (ss : List Step) (q : E.Elem) (s : ℕ) → s + 64 * length ss ≤ plane_bound → Within s (E.list q) → KeptWalk E B ss q
    unfolding KeptWalk
    kept_walk [] q s h w = tt
    kept_walk (x ∷ ss) q s h w = (kept_along s q x.label x.direction (omega arith) w, kept_walk ss _ (s + 64) (omega arith) (along_size s q x.label x.direction w))

    start_of : (m l j : ℕ) (f : Bool) (q : E.Elem) → Within m (E.list q) → Within m (E.list (along E B l j q)) → Within m (E.list (step_count E B (record { label = l; forward = f; direction = j }) q).what.start)
    unfolding step_count edge
    start_of m l j true q v w = v
    start_of m l j false q v w = w

    starts : (m : ℕ) (ss : List Step) (q : E.Elem) (s : ℕ) → s + 64 * length ss ≤ m → Within s (E.list q) → StartsWithin E m (walk E B ss q)
    unfolding walk
    starts m [] q s h w = tt
    starts m (x ∷ ss) q s h w =
        let next = along_size s q x.label x.direction w in
        (start_of m x.label x.direction x.forward q (within_wider s m _ (omega arith) w) (within_wider (s + 64) m _ (omega arith) next), starts m ss _ (s + 64) (omega arith) next)

    corner_sizes : (m : ℕ) (ss : List Step) (q : E.Elem) (s : ℕ) → s + 64 * length ss ≤ m → Within s (E.list q) → AllByRecursion (λ c. Within m (E.list c)) (corners E B ss q)
    unfolding corners
    corner_sizes m [] q s h w = tt
    corner_sizes m (x ∷ ss) q s h w =
        let next = along_size s q x.label x.direction w in
        (within_wider (s + 64) m _ (omega arith) next, corner_sizes m ss _ (s + 64) (omega arith) next)

    corners_many : (ss : List Step) (q : E.Elem) → length (corners E B ss q) ≡ length ss
    unfolding corners
    corners_many [] q = refl
    corners_many (x ∷ ss) q = ap suc (corners_many ss _)

    kept_outline : (t : ℕ) → KeptOutline E B t
    unfolding KeptOutline
    kept_outline t = let h = few t in kept_walk (tile_at B t).outline E.zero 0 (omega (arith, h)) (zero_within E L)

    outline_starts : (t : ℕ) → StartsWithin E 768 (outline E B t)
    unfolding outline
    outline_starts t = let h = few t in starts 768 (tile_at B t).outline E.zero 0 (omega (arith, h)) (zero_within E L)

    -- ---- sweeps of corners of at most 768 in size
    swept : (cs : List E.Elem) (p : E.Elem) → Within 768 (E.list p) → AllByRecursion (λ c. Within 768 (E.list c)) cs → Within (length cs * 18874368) (E.list (sweep_through E p cs))
    swept [] p v w = within_wider 0 (0 * 18874368) _ (omega arith) (zero_within E L)
    swept (c ∷ cs) p v w = within_wider (18874368 + length cs * 18874368) (length (c ∷ cs) * 18874368) _ (omega arith) (Z.sum_size 18874368 (length cs * 18874368) _ _ (sweep_size E Z 768 p c v w.0) (swept cs c w.0 w.1))

    pub kept_round : (t : ℕ) → KeptRound E B t
    unfolding total_sweep
    kept_round t =
        let h = few t in
        let n = corners_many (tile_at B t).outline E.zero in
        record {
          corners = kept_outline t;
          area = within_wider (length (corners E B (tile_at B t).outline E.zero) * 18874368) height_bound _ (omega (arith, h, n))
              (swept (corners E B (tile_at B t).outline E.zero) E.zero (within_wider 0 768 _ (omega arith) (zero_within E L)) (corner_sizes 768 (tile_at B t).outline E.zero 0 (omega (arith, h)) (zero_within E L)));
        }

    -- ---- placed outlines
    mirrored_size : (b : Bool) (z : E.Elem) → Within 768 (E.list z) → Within 1536 (E.list (cond b (E.conj z) z))
    mirrored_size true z w = Z.conj_size 768 z w
    mirrored_size false z w = within_wider 768 1536 _ (omega arith) w

    image_size : (p : Placement E) (z : E.Elem) → Within 32 (E.list p.place) → Within 768 (E.list z) → Within 3104 (E.list (image E p z))
    unfolding image
    image_size p z v w = Z.sum_size 32 3072 _ _ v (Z.turn_size p.turn 1536 _ (mirrored_size p.mirrored z w))

    kept_image : (p : Placement E) (z : E.Elem) → Within 32 (E.list p.place) → Within 768 (E.list z) → KeptImage E p z
    kept_image p z v w =
        (fits 1536 _ (omega arith) (mirrored_size p.mirrored z w), fits 3072 _ (omega arith) (Z.turn_size p.turn 1536 _ (mirrored_size p.mirrored z w)), fits 3104 _ (omega arith) (image_size p z v w))

    kept_placed : (p : Placement E) → Within 32 (E.list p.place) → KeptPlacedOutline E B p
    unfolding KeptPlacedOutline
    kept_placed p v = (kept_outline p.tile, All-weaker _ _ (λ x w. kept_image p x.what.start v w) (outline E B p.tile) (outline_starts p.tile))

    placed_starts : (p : Placement E) → Within 32 (E.list p.place) → StartsWithin E 3104 (placed_outline E B p)
    unfolding placed_outline placed placed_entry placed_edge
    placed_starts p v = All-map _ (placed_entry E p) (outline E B p.tile) (All-weaker _ _ (λ x w. image_size p x.what.start v w) (outline E B p.tile) (outline_starts p.tile))

    outlines_starts : (ps : List (Placement E)) → AllByRecursion (λ p. Within 32 (E.list p.place)) ps → StartsWithin E 3104 (outlines E B ps)
    unfolding outlines flat_map
    outlines_starts [] v = tt
    outlines_starts (p ∷ ps) v = All-append _ (placed_outline E B p) _ (placed_starts p v.0) (outlines_starts ps v.1)

    kept_forms : (m : ℕ) (c : Chain E) → m + 64 ≤ plane_bound → StartsWithin E m c → KeptForms E B c
    kept_forms m c h w = All-weaker _ _ (λ x s _. kept_along m x.what.start x.what.label x.what.direction h s) c w

    -- ---- inflation
    stretched_size : (x : Edge E) → Within 768 (E.list x.start) → Within 196608 (E.list (E.mul B.factor x.start))
    stretched_size x w = Z.mul_size 32 768 _ _ F w

    subdivided_room : (x : Edge E) → 196608 + 64 * length (stepped x.direction (label_at B x.label).subdivision) ≤ 197120
    subdivided_room x = let h = short x.label in let n = stepped_length x.direction (label_at B x.label).subdivision in omega (arith, h, n)

    kept_subdivided : (x : Edge E) → Within 768 (E.list x.start) → KeptSubdivided E B x
    unfolding KeptSubdivided
    kept_subdivided x w =
        let h = subdivided_room x in
        (fits 196608 _ (omega arith) (stretched_size x w), kept_walk (stepped x.direction (label_at B x.label).subdivision) _ 196608 (omega (arith, h)) (stretched_size x w))

    subdivided_starts : (x : Edge E) → Within 768 (E.list x.start) → StartsWithin E 197120 (subdivided E B x)
    unfolding subdivided
    subdivided_starts x w = starts 197120 (stepped x.direction (label_at B x.label).subdivision) _ 196608 (subdivided_room x) (stretched_size x w)

    scaled_starts : (m : ℕ) (k : ℤ) (c : Chain E) → StartsWithin E m c → StartsWithin E m (scaled k c)
    unfolding scaled
    scaled_starts m k [] w = tt
    scaled_starts m k (x ∷ c) w = (w.0, scaled_starts m k c w.1)

    inflate_starts : (c : Chain E) → StartsWithin E 768 c → StartsWithin E 197120 (inflate E B c)
    unfolding inflate
    inflate_starts [] w = tt
    inflate_starts (x ∷ c) w = All-append _ (scaled x.count (subdivided E B x.what)) _ (scaled_starts 197120 x.count (subdivided E B x.what) (subdivided_starts x.what w.0)) (inflate_starts c w.1)

    pub kept_balance : (t : ℕ) → AllByRecursion (λ p. Within 32 (E.list p.place)) (tile_at B t).children → KeptBalance E B t
    kept_balance t v = record {
      children = All-weaker _ _ kept_placed (tile_at B t).children v;
      corners = kept_outline t;
      inflated = All-weaker _ _ (λ x w. kept_subdivided x.what w) (outline E B t) (outline_starts t);
      children_forms = kept_forms 3104 _ (omega arith) (outlines_starts (tile_at B t).children v);
      inflated_forms = kept_forms 197120 _ (omega arith) (inflate_starts (outline E B t) (outline_starts t));
    }
