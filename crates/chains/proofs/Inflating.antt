-- Inflation keeps equal net counts, where every subdivision fits.
use Rattle.std.proofs.Common.{◌≡◌, ℕ, ◌+◌, ◌%◌, Bool, true, false, cond, not, List, [], ◌∷◌, ◌++◌, ℤ, pos, negsuc, ◌+ℤ◌, neg_ℤ, sym, refl, ap, ◌∙◌, ap₂, arith}
use Rattle.std.proofs.lemmas.Int.{ints}
use Rattle.exact.specs.Cyclotomic.{Cyclotomic, CyclotomicLaws, power, half}
use Rattle.exact.specs.JobNumbers.{Part, Step}
use Rattle.exact.proofs.Powers.{ring_of}
use Rattle.exact.proofs.Solver as solver
use Rattle.chains.specs.Counts.{Counted, scaled, reading}
use Rattle.chains.specs.Books.{Book, label_at}
use Rattle.chains.specs.Edges.{Edge, Chain, along, edge, reversed, canonical, net, SameNet, step_count, walk, ReadsEdges}
use Rattle.chains.specs.Inflation.{stepped, subdivided, inflate}
use Rattle.chains.specs.Accepted.{lengths, turned_part, backwards}
use Rattle.rings.proofs.Multiples as groups
use Rattle.chains.proofs.Turns as turns
use Rattle.chains.proofs.Edges as edges
use Rattle.chains.proofs.Edges.{counted_path}

module _ (E : Cyclotomic) (L : CyclotomicLaws E) (B : Book E) where
  -- parts in one direction, taken modulo n
  walk_mod : (j : ℕ) (ps : List Part) (q : E.Elem) → walk E B (stepped (j % E.n) ps) q ≡ walk E B (stepped j ps) q
  unfolding walk stepped step_count
  walk_mod j [] q = refl
  walk_mod j (p ∷ ps) q = ap₂ ◌∷◌ (go p.forward) (ap (walk E B (stepped (j % E.n) ps)) (edges.along_mod E L B p.label j q) ∙ walk_mod j ps _)
    where
      go : (b : Bool) →
          let v : Counted (Edge E) = cond b (record { what = edge E p.label (j % E.n) q; count = pos 1 }) (record { what = edge E p.label (j % E.n + half E) (along E B p.label (j % E.n) q); count = negsuc 0 }) in
          let w : Counted (Edge E) = cond b (record { what = edge E p.label j q; count = pos 1 }) (record { what = edge E p.label (j + half E) (along E B p.label j q); count = negsuc 0 }) in
          v ≡ w
      go true = counted_path (edges.edge_mod E L B _ _ _) refl
      go false = counted_path (edges.edge_opposed E L B _ _ _ ∙ ap (edge E p.label (j + half E)) (edges.along_mod E L B _ _ _)) refl

  -- where parts in one direction lead
  further : ℕ → List Part → E.Elem → E.Elem
  further j ps q = E.add q (E.mul (power E j) (lengths E B ps))

  further_none : (j : ℕ) (q : E.Elem) → further j [] q ≡ q
  unfolding further lengths
  further_none j q = ap (E.add q) (solver.mul_zero (ring_of E L) _) ∙ L.ring.add-zero q

  further_more : (j : ℕ) (p : Part) (ps : List Part) (q : E.Elem) → further j ps (along E B p.label j q) ≡ further j (p ∷ ps) q
  unfolding further lengths along
  further_more j p ps q = L.ring.add_assoc _ _ _ ∙ ap (E.add q) (sym (L.ring.mul_add _ _ _))

  walk_append : (j : ℕ) (us vs : List Part) (q : E.Elem) → walk E B (stepped j (us ++ vs)) q ≡ walk E B (stepped j us) q ++ walk E B (stepped j vs) (further j us q)
  unfolding walk stepped
  walk_append j [] vs q = ap (walk E B (stepped j vs)) (sym (further_none j q))
  walk_append j (p ∷ us) vs q = ap₂ ◌∷◌ refl (walk_append j us vs (along E B p.label j q)
      ∙ ap (λ z. walk E B (stepped j us) (along E B p.label j q) ++ walk E B (stepped j vs) z) (further_more j p us q))

  lengths_append : (us vs : List Part) → lengths E B (us ++ vs) ≡ E.add (lengths E B us) (lengths E B vs)
  unfolding lengths
  lengths_append [] vs = sym (L.ring.add_comm _ _ ∙ L.ring.add-zero _)
  lengths_append (p ∷ us) vs = ap (E.add _) (lengths_append us vs) ∙ sym (L.ring.add_assoc _ _ _)

  lengths_backwards : (ps : List Part) → lengths E B (backwards E B ps) ≡ lengths E B ps
  unfolding lengths backwards turned_part
  lengths_backwards [] = refl
  lengths_backwards (p ∷ ps) = lengths_append (backwards E B ps) _ ∙ ap₂ E.add (lengths_backwards ps) (L.ring.add-zero _) ∙ L.ring.add_comm _ _

  further_back : (j : ℕ) (ps : List Part) (q : E.Elem) → further (j + half E) (backwards E B ps) (further j ps q) ≡ q
  unfolding further
  further_back j ps q = ap (E.add _) (ap₂ E.mul (turns.power_opposed E L j) (lengths_backwards ps) ∙ solver.neg_mul (ring_of E L) _ _) ∙ edges.there_and_back E L _ _

  plain_edge : (e j : ℕ) (q : E.Elem) → (label_at B e).arrowed ≡ false → (label_at B (edge E e j q).label).arrowed ≡ false
  unfolding edge
  plain_edge e j q h = h

  -- a turned step back counts the opposite
  step_back : (j : ℕ) (p : Part) (q : E.Elem) →
      let back : Step = record { label = p.label; forward = (turned_part E B p).forward; direction = j + half E } in
      let there : Counted (Edge E) = step_count E B (record { label = p.label; forward = p.forward; direction = j }) q in
      canonical E B (step_count E B back (along E B p.label j q)) ≡ canonical E B (record { what = there.what; count = neg_ℤ there.count })
  unfolding step_count turned_part
  step_back j p q = go (label_at B p.label).arrowed p.forward refl
    where
      go : (a b : Bool) → (label_at B p.label).arrowed ≡ a →
          let v : Counted (Edge E) = cond (cond a (not b) b) (record { what = edge E p.label (j + half E) (along E B p.label j q); count = pos 1 })
          (record { what = edge E p.label (j + half E + half E) (along E B p.label (j + half E) (along E B p.label j q)); count = negsuc 0 }) in
          let w : Counted (Edge E) = cond b (record { what = edge E p.label j q; count = pos 1 }) (record { what = edge E p.label (j + half E) (along E B p.label j q); count = negsuc 0 }) in
          canonical E B v ≡ canonical E B (record { what = w.what; count = neg_ℤ w.count })
      go true true e = ap (canonical E B) (counted_path (edges.edge_twice E L B _ _ _) refl)
      go true false e = refl
      go false true e = ap (canonical E B) (counted_path (sym (edges.reversed_edge E L B _ _ _)) refl) ∙ edges.canonical_reversed E L B (edge E p.label j q) (pos 1) (plain_edge p.label j q e)
      go false false e = ap (canonical E B) (counted_path (edges.edge_twice E L B _ _ _) refl) ∙ sym (edges.canonical_reversed E L B (edge E p.label j q) (pos 1) (plain_edge p.label j q e)) ∙ ap (canonical E B) (counted_path (edges.reversed_edge E L B _ _ _) refl)

  -- parts walked backwards count the opposite
  walk_back : (j : ℕ) (ps : List Part) (q : E.Elem) (y : Edge E) → net E B (walk E B (stepped (j + half E) (backwards E B ps)) (further j ps q)) y ≡ neg_ℤ (net E B (walk E B (stepped j ps) q) y)
  unfolding backwards stepped walk turned_part
  walk_back j [] q y = edges.net_empty E L B y
  walk_back j (p ∷ ps) q y =
      ap (λ z. net E B z y) (walk_append (j + half E) (backwards E B ps) (turned_part E B p ∷ []) (further j (p ∷ ps) q)
      ∙ ap₂ (λ a b. walk E B (stepped (j + half E) (backwards E B ps)) a ++ walk E B (stepped (j + half E) (turned_part E B p ∷ [])) b) (sym (further_more j p ps q)) start)
      ∙ edges.net_append E L B (walk E B (stepped (j + half E) (backwards E B ps)) (further j ps q')) (walk E B (stepped (j + half E) (turned_part E B p ∷ [])) q') y
      ∙ opposites _ _ (net E B (walk E B (stepped j (p ∷ [])) q) y) (net E B (walk E B (stepped j ps) q') y) (walk_back j ps q' y)
      (edges.net_one E L B _ (step_count E B (record { label = p.label; forward = p.forward; direction = j }) q) y (step_back j p q))
      ∙ ap neg_ℤ (sym (edges.net_append E L B (walk E B (stepped j (p ∷ [])) q) (walk E B (stepped j ps) q') y))
    where
      q' : E.Elem
      q' = along E B p.label j q

      start : further (j + half E) (backwards E B ps) (further j (p ∷ ps) q) ≡ q'
      start = ap (further (j + half E) (backwards E B ps)) (sym (further_more j p ps q)) ∙ further_back j ps q'

      opposites : (a b s t : ℤ) → a ≡ neg_ℤ t → b ≡ neg_ℤ s → a +ℤ b ≡ neg_ℤ (s +ℤ t)
      opposites a b s t h k = omega (arith, ints)

  module _ (adds : (e : ℕ) → lengths E B (label_at B e).subdivision ≡ E.mul B.factor (label_at B e).length)
      (palindrome : (e : ℕ) → (label_at B e).arrowed ≡ false → backwards E B (label_at B e).subdivision ≡ (label_at B e).subdivision) where
    far_end : (x : Edge E) → E.mul B.factor (along E B x.label x.direction x.start) ≡ further x.direction (label_at B x.label).subdivision (E.mul B.factor x.start)
    unfolding along further
    far_end x = L.ring.mul_add _ _ _ ∙ ap (E.add _) (solver.mul_swap (ring_of E L) _ _ _ ∙ ap (E.mul (power E x.direction)) (sym (adds x.label)))

    -- the parts of an edge, as a reading of it
    parts_read : (y : Edge E) → ReadsEdges E B groups.whole (λ x. net E B (subdivided E B x) y)
    unfolding subdivided edge reversed
    parts_read y = record {
      modulo_n = λ x. ap (λ z. net E B z y) (walk_mod x.direction _ _);
      from_the_other_end = λ x plain.
          ap (λ z. net E B z y) (walk_mod (x.direction + half E) _ _ ∙ ap₂ (λ a b. walk E B (stepped (x.direction + half E) a) b) (sym (palindrome x.label plain)) (far_end x))
          ∙ walk_back x.direction (label_at B x.label).subdivision (E.mul B.factor x.start) y;
    }

    net_inflated : (xs : Chain E) (y : Edge E) → net E B (inflate E B xs) y ≡ reading groups.whole (λ x. net E B (subdivided E B x) y) xs
    unfolding inflate reading
    net_inflated [] y = edges.net_none E L B y
    net_inflated (x ∷ xs) y =
        edges.net_append E L B (scaled x.count (subdivided E B x.what)) (inflate E B xs) y
        ∙ ap₂ ◌+ℤ◌ (edges.net_scaled E L B x.count (subdivided E B x.what) y ∙ sym (groups.times_mul x.count (net E B (subdivided E B x.what) y))) (net_inflated xs y)

    -- inflation keeps equal net counts
    pub inflate_same : (xs ys : Chain E) → SameNet E B xs ys → SameNet E B (inflate E B xs) (inflate E B ys)
    inflate_same xs ys h y = net_inflated xs y ∙ edges.cancels E L B groups.whole groups.whole_laws (λ x. net E B (subdivided E B x) y) (parts_read y) xs ys h ∙ sym (net_inflated ys y)
