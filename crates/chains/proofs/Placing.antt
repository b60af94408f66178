-- Placing keeps equal net counts and commutes with inflating, where lengths and factor are real; so children balance their parent.
use Rattle.std.proofs.Common.{◌≡◌, ℕ, Bool, true, false, List, [], ◌∷◌, ◌++◌, map, ℤ, pos, ◌+ℤ◌, ◌*ℤ◌, neg_ℤ, sym, refl, ap, ◌∙◌, ap₂}
use mathlib.Core.List.{flat_map, map-append}
use lib.IntN.{*ℤ-one, one}
use Rattle.exact.specs.Cyclotomic.{Cyclotomic, CyclotomicLaws, power}
use Rattle.exact.specs.JobNumbers.{Part}
use Rattle.exact.proofs.Powers.{ring_of}
use Rattle.exact.proofs.Solver as solver
use Rattle.chains.specs.Counts.{Counted, scaled, tally, reading}
use Rattle.chains.specs.Books.{Book, Placement, label_at, tile_at}
use Rattle.chains.specs.Edges.{Edge, Chain, same_edge, along, edge, reversed, net, SameNet, step_count, walk, ReadsEdges}
use Rattle.chains.specs.Inflation.{stepped, subdivided, inflate}
use Rattle.chains.specs.Placements.{image, heading, signed, placed_edge, placed_entry, placed, stretched, child_of, children_of, outline, placed_outline, outlines}
use Rattle.rings.proofs.Multiples as groups
use Rattle.chains.proofs.Tallies.{negated}
use Rattle.chains.proofs.Edges as edges
use Rattle.chains.proofs.Edges.{edge_path, counted_path}
use Rattle.chains.proofs.Images as images

mul_one : (c : ℤ) → c *ℤ pos 1 ≡ c
unfolding one
mul_one c = *ℤ-one c

module _ (E : Cyclotomic) (L : CyclotomicLaws E) (B : Book E) (real-length : (e : ℕ) → E.conj (label_at B e).length ≡ (label_at B e).length) where
  image_along : (p : Placement E) (e j : ℕ) (q : E.Elem) → image E p (along E B e j q) ≡ along E B e (heading E p j) (image E p q)
  unfolding along
  image_along p e j q = images.image_turned E L p.tile p.turn p.mirrored p.place q j (label_at B e).length
      ∙ ap (λ z. E.add (image E p q) (E.mul (power E (heading E p j)) z)) (images.real E L p.mirrored (label_at B e).length (real-length e))

  module _ (p : Placement E) where
    step_placed : (e j : ℕ) (f : Bool) (q : E.Elem) →
        let there : Counted (Edge E) = step_count E B (record { label = e; forward = f; direction = heading E p j }) (image E p q) in
        placed_entry E p (step_count E B (record { label = e; forward = f; direction = j }) q) ≡ record { what = there.what; count = signed E p there.count }
    unfolding step_count edge placed_entry placed_edge
    step_placed e j true q = counted_path (edge_path refl (images.heading_of_mod E L p.tile p.turn p.mirrored p.place j) refl) refl
    step_placed e j false q = counted_path (edge_path refl (images.heading_opposed E L p.tile p.turn p.mirrored p.place j) (image_along p e j q)) refl

    -- every count with the sign that the mark gives
    signed_chain : Chain E → Chain E
    signed_chain [] = []
    signed_chain (x ∷ xs) = record { what = x.what; count = signed E p x.count } ∷ signed_chain xs

    walk_placed : (j : ℕ) (ps : List Part) (q : E.Elem) → placed E p (walk E B (stepped j ps) q) ≡ signed_chain (walk E B (stepped (heading E p j) ps) (image E p q))
    unfolding placed walk stepped signed_chain
    walk_placed j [] q = refl
    walk_placed j (s ∷ ps) q = ap₂ ◌∷◌ (step_placed s.label j s.forward q)
        (walk_placed j ps (along E B s.label j q) ∙ ap (λ z. signed_chain (walk E B (stepped (heading E p j) ps) z)) (image_along p s.label j q))

    scaled_signs : (c : ℤ) (xs : Chain E) → scaled c (signed_chain xs) ≡ scaled (signed E p c) xs
    unfolding scaled signed_chain
    scaled_signs c [] = refl
    scaled_signs c (x ∷ xs) = ap₂ ◌∷◌ (counted_path refl (images.mul_sign E L p.tile p.turn p.mirrored p.place c x.count ∙ sym (images.sign_mul E L p.tile p.turn p.mirrored p.place c x.count))) (scaled_signs c xs)

    placed_scaled : (c : ℤ) (xs : Chain E) → placed E p (scaled c xs) ≡ scaled c (placed E p xs)
    unfolding scaled placed placed_entry
    placed_scaled c [] = refl
    placed_scaled c (x ∷ xs) = ap₂ ◌∷◌ (counted_path refl (sym (images.mul_sign E L p.tile p.turn p.mirrored p.place c x.count))) (placed_scaled c xs)

    placed_append : (xs ys : Chain E) → placed E p (xs ++ ys) ≡ placed E p xs ++ placed E p ys
    unfolding placed
    placed_append xs ys = map-append (placed_entry E p) xs ys

    placed_empty : placed E p [] ≡ []
    unfolding placed
    placed_empty = refl

    -- a placed edge, as a reading of the edge
    module _ (y : Edge E) where
      seen : Edge E → ℤ
      seen x = net E B (record { what = placed_edge E p x; count = signed E p (pos 1) } ∷ []) y

      placed_reduced : (x : Edge E) → placed_edge E p (edge E x.label x.direction x.start) ≡ placed_edge E p x
      unfolding edge placed_edge
      placed_reduced x = edge_path refl (images.heading_of_mod E L p.tile p.turn p.mirrored p.place x.direction ∙ images.heading_mod E L p.tile p.turn p.mirrored p.place x.direction) refl

      placed_reversed : (x : Edge E) → placed_edge E p (reversed E B x) ≡ reversed E B (placed_edge E p x)
      unfolding placed_edge reversed edge
      placed_reversed x = edge_path refl (images.heading_opposed E L p.tile p.turn p.mirrored p.place x.direction) (image_along p x.label x.direction x.start)

      placed_plain : (x : Edge E) → (label_at B x.label).arrowed ≡ false → (label_at B (placed_edge E p x).label).arrowed ≡ false
      unfolding placed_edge
      placed_plain x h = h

      net_sign : (x : Edge E) (c : ℤ) → net E B (record { what = x; count = neg_ℤ c } ∷ []) y ≡ neg_ℤ (net E B (record { what = x; count = c } ∷ []) y)
      unfolding negated
      net_sign x c = edges.net_negated E L B (record { what = x; count = c } ∷ []) y

      net_reversed : (x : Edge E) (c : ℤ) → (label_at B x.label).arrowed ≡ false → net E B (record { what = reversed E B x; count = c } ∷ []) y ≡ net E B (record { what = x; count = neg_ℤ c } ∷ []) y
      unfolding net
      net_reversed x c plain = ap (λ z. tally (same_edge E) (z ∷ []) y) (edges.canonical_reversed E L B x c plain)

      seen_reads : ReadsEdges E B groups.whole seen
      unfolding seen
      seen_reads = record {
        modulo_n = λ x. ap (λ z. net E B (record { what = z; count = signed E p (pos 1) } ∷ []) y) (placed_reduced x);
        from_the_other_end = λ x plain. ap (λ z. net E B (record { what = z; count = signed E p (pos 1) } ∷ []) y) (placed_reversed x)
            ∙ net_reversed (placed_edge E p x) (signed E p (pos 1)) (placed_plain x plain) ∙ net_sign (placed_edge E p x) (signed E p (pos 1));
      }

      one_seen : (x : Counted (Edge E)) → net E B (placed_entry E p x ∷ []) y ≡ x.count *ℤ seen x.what
      unfolding seen placed_entry scaled
      one_seen x = ap (λ z. net E B (z ∷ []) y) (counted_path refl (sym (images.mul_sign E L p.tile p.turn p.mirrored p.place x.count (pos 1) ∙ ap (signed E p) (mul_one x.count))))
          ∙ edges.net_scaled E L B x.count (record { what = placed_edge E p x.what; count = signed E p (pos 1) } ∷ []) y

      net_placed : (xs : Chain E) → net E B (placed E p xs) y ≡ reading groups.whole seen xs
      unfolding reading placed
      net_placed [] = edges.net_none E L B y
      net_placed (x ∷ xs) = edges.net_append E L B (placed_entry E p x ∷ []) (map (placed_entry E p) xs) y
          ∙ ap₂ ◌+ℤ◌ (one_seen x ∙ sym (groups.times_mul x.count (seen x.what))) (net_placed xs)

    -- placing keeps equal net counts
    pub placed_same : (xs ys : Chain E) → SameNet E B xs ys → SameNet E B (placed E p xs) (placed E p ys)
    placed_same xs ys h y = net_placed y xs ∙ edges.cancels E L B groups.whole groups.whole_laws (seen y) (seen_reads y) xs ys h ∙ sym (net_placed y ys)

  sign_stretched : (p : Placement E) (xs : Chain E) → signed_chain (stretched E B p) xs ≡ signed_chain p xs
  unfolding signed_chain signed stretched
  sign_stretched p [] = refl
  sign_stretched p (x ∷ xs) = ap₂ ◌∷◌ refl (sign_stretched p xs)

  module _ (real-factor : E.conj B.factor ≡ B.factor) where
    image_factor : (t k : ℕ) (m : Bool) (P q : E.Elem) → image E (stretched E B (images.put t k m P)) (E.mul B.factor q) ≡ E.mul B.factor (image E (images.put t k m P) q)
    unfolding image stretched
    image_factor t k false P q = sym (L.ring.mul_add _ _ _ ∙ ap (E.add _) (solver.mul_swap (ring_of E L) _ _ _))
    image_factor t k true P q = sym (L.ring.mul_add _ _ _ ∙ ap (E.add _) (solver.mul_swap (ring_of E L) _ _ _ ∙ ap (E.mul (power E k)) (sym (L.conj_mul _ _ ∙ ap (λ z. E.mul z (E.conj q)) (real-factor)))))

    parts_placed : (p : Placement E) (x : Edge E) → placed E (stretched E B p) (subdivided E B x) ≡ signed_chain p (subdivided E B (placed_edge E p x))
    unfolding subdivided placed_edge
    parts_placed p x = walk_placed (stretched E B p) x.direction (label_at B x.label).subdivision (E.mul B.factor x.start)
        ∙ sign_stretched p _
        ∙ ap₂ (λ j z. signed_chain p (walk E B (stepped j (label_at B x.label).subdivision) z)) (images.heading_stretched E L B p x.direction) (image_factor p.tile p.turn p.mirrored p.place x.start)

    -- to inflate what is placed is to place what is inflated
    pub inflate_placed : (p : Placement E) (xs : Chain E) → inflate E B (placed E p xs) ≡ placed E (stretched E B p) (inflate E B xs)
    unfolding inflate placed placed_entry
    inflate_placed p [] = refl
    inflate_placed p (x ∷ xs) = ap₂ ◌++◌
        (sym (scaled_signs p x.count _) ∙ ap (scaled x.count) (sym (parts_placed p x.what)) ∙ sym (placed_scaled (stretched E B p) x.count (subdivided E B x.what)))
        (inflate_placed p xs)
        ∙ sym (placed_append (stretched E B p) (scaled x.count (subdivided E B x.what)) (inflate E B xs))

    outline_child : (p c : Placement E) → placed_outline E B (child_of E B p c) ≡ placed E (stretched E B p) (placed_outline E B c)
    unfolding placed_outline child_of
    outline_child p c = images.placed_child E L B p c (outline E B c.tile)

    outlines_child : (p : Placement E) (cs : List (Placement E)) → outlines E B (map (child_of E B p) cs) ≡ placed E (stretched E B p) (outlines E B cs)
    unfolding outlines flat_map
    outlines_child p [] = sym (placed_empty (stretched E B p))
    outlines_child p (c ∷ cs) = ap₂ ◌++◌ (outline_child p c) (outlines_child p cs) ∙ sym (placed_append (stretched E B p) (placed_outline E B c) (outlines E B cs))

    -- the children of a placed tile have the net counts of its outline inflated once
    pub children_same : (p : Placement E) → SameNet E B (outlines E B (tile_at B p.tile).children) (inflate E B (outline E B p.tile)) → SameNet E B (outlines E B (children_of E B p)) (inflate E B (placed_outline E B p))
    unfolding children_of placed_outline
    children_same p balance y = ap (λ z. net E B z y) (outlines_child p (tile_at B p.tile).children)
        ∙ placed_same (stretched E B p) (outlines E B (tile_at B p.tile).children) (inflate E B (outline E B p.tile)) balance y
        ∙ ap (λ z. net E B z y) (sym (inflate_placed p (outline E B p.tile)))
