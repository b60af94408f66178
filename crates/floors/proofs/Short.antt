-- The list of a job that was read fits into the bytes that are lent for it: no line has more than 42.
use Rattle.std.proofs.Common.{◌≡◌, ℕ, suc, ◌*◌, ◌%◌, ◌<◌, ◌≤◌, Bool, true, false, List, [], ◌∷◌, ◌++◌, length, ℤ, pos, negsuc, nat_abs, inl, inr, sym, subst, decimal, arith}
use mathlib.Core.Logic.{∥∥₁_elim}
use Rattle.std.specs.List.{AllByRecursion, flat_map}
use Rattle.std.proofs.lemmas.Fmt.{length-decimal-le}
use Rattle.std.proofs.lemmas.List.{length-append}
use Rattle.exact.specs.Cyclotomic.{Cyclotomic, CyclotomicLaws}
use Rattle.exact.specs.JobNumbers.{JobNumbers}
use Rattle.exact.specs.Sizes.{Within}
use Rattle.exact.proofs.Sizes.{between_abs}
use Rattle.rings.specs.Plane.{plane_bound, OnPlane}
use Rattle.lines.specs.Spelling.{word}
use Rattle.jobs.specs.Limits.{Ring}
use Rattle.jobs.specs.Ranges.{InRange}
use Rattle.jobs.specs.Spelled.{mark}
use Rattle.chains.specs.Books.{Placement}
use Rattle.chains.specs.Addresses.{Address, node_placement}
use Rattle.chains.proofs.Nodes.{node_placement_tile}
use Rattle.ring_jobs.specs.Shapes.{Branching}
use Rattle.nodes.specs.Table.{there, table}
use Rattle.calls.specs.Limits.{most_pieces}
use Rattle.calls.specs.Depths.{pieces}
use Rattle.calls.proofs.Families.{named}
use Rattle.runs.proofs.Fitting.{place_there}
use Rattle.floors.specs.Floors.{most_bytes, piece_line, floor_list, AllLaid}

-- ---- numbers
-- a coefficient on the plane has a sign and seven digits at most
plane_word : (z : ℤ) → nat_abs z ≤ plane_bound → length (word z) ≤ 9
plane_word (pos n) h = let k = length-decimal-le 7 n (omega arith) (omega (arith, h)) (omega (arith, h)) in omega (arith, k)
plane_word (negsuc n) h = let k = length-decimal-le 7 (suc n) (omega arith) (omega (arith, h)) (omega (arith, h)) in omega (arith, k)

digit_word : (n : ℕ) → n < 10 → length (word (pos n)) ≤ 2
digit_word n h = omega (arith, length-decimal-le 1 n (omega arith) (omega arith) (omega arith))

mark_word : (b : Bool) → length (word (mark b)) ≤ 2
mark_word true = digit_word 1 (omega arith)
mark_word false = digit_word 0 (omega arith)

plane_words : (zs : List ℤ) → Within plane_bound zs → length (flat_map word zs) ≤ 9 * length zs
plane_words [] h = omega arith
plane_words (z ∷ zs) h =
    let w = plane_word z (between_abs plane_bound z h.0) in
    let k = plane_words zs h.1 in
    omega (arith, w, k, length-append (word z) (flat_map word zs))

-- in both rings that a job may name a turn has one digit, and a place has four coefficients at most
few_turns : (n d k : ℕ) → Ring n d → k % n < 10
few_turns n d k (inl r) = subst (λ m. k % m < 10) (sym r.0) (omega arith)
few_turns n d k (inr r) = subst (λ m. k % m < 10) (sym r.0) (omega arith)

few_coefficients : (n d : ℕ) → Ring n d → d ≤ 4
few_coefficients n d (inl r) = omega (arith, r.1)
few_coefficients n d (inr r) = omega (arith, r.1)

module _ (E : Cyclotomic) (L : CyclotomicLaws E) (named_ring : Ring E.n E.d) where
  -- ---- a line
  line_short : (p : Placement E) → p.tile < 10 → OnPlane E p.place → length (piece_line E p) ≤ 42
  line_short p t o =
      let tile = decimal p.tile in let turn = word (pos (p.turn % E.n)) in let m = word (mark p.mirrored) in let place = flat_map word (E.list p.place) in
      let a = length-decimal-le 1 p.tile (omega arith) (omega arith) (omega arith) in
      let b = digit_word (p.turn % E.n) (few_turns E.n E.d p.turn named_ring) in
      let c = mark_word p.mirrored in
      let d = plane_words (E.list p.place) o in
      let e = L.list_length p.place in
      let f = few_coefficients E.n E.d named_ring in
      let g : length place ≤ 36 = omega (arith, d, e, f) in
      omega (arith, a, b, c, g, length-append tile turn, length-append (tile ++ turn) m, length-append (tile ++ turn ++ m) place, length-append (tile ++ turn ++ m ++ place) (10 ∷ []))

  module _ (N : JobNumbers) (B : Branching N) (few : length N.tiles ≤ 8) where
    -- ---- the whole list
    lines_short : (nodes : List Address) → AllByRecursion (λ a. table E N a ≡ there (node_placement E N a)) nodes → length (flat_map (λ a. piece_line E (node_placement E N a)) nodes) ≤ 42 * length nodes
    lines_short [] h = omega arith
    lines_short (a ∷ nodes) h =
        let p = node_placement E N a in
        let t : p.tile < 10 = subst (λ n. n < 10) (sym (node_placement_tile E N a)) (omega (arith, named N B a)) in
        let one = line_short p t (place_there E N a p h.0) in
        let more = lines_short nodes h.1 in
        omega (arith, one, more, length-append (piece_line E p) (flat_map (λ b. piece_line E (node_placement E N b)) nodes))

    list_short : AllLaid E N most_pieces → length (floor_list E N) ≤ most_bytes
    unfolding floor_list
    list_short l = omega (arith, lines_short (pieces N) l.on_plane, l.room)

-- the list of a job that was read is not too long
pub never_too_long : (E : Cyclotomic) → CyclotomicLaws E → (N : JobNumbers) → Branching N → ∥ InRange N ∥₁ → AllLaid E N most_pieces → most_bytes < length (floor_list E N) → ⊥
never_too_long E L N B r l h = ∥∥₁_elim r (λ x y. absurd x) (λ s.
    let o = l.passes.judged.of_the_ring in
    let ring : Ring E.n E.d = subst (λ n. Ring n E.d) o.0 (subst (λ d. Ring N.order d) o.1 s.shaped.ring) in
    let k = list_short E L ring N B s.shaped.few_tiles l in
    omega (arith, k, h))
