-- Once round an outline, step by step: what is swept so far, and what is still to come.
use Rattle.std.proofs.Common.{◌≡◌, ℕ, ◌+◌, ◌*◌, ◌<◌, ◌≤◌, List, map, length, get_or, drop, sym, refl, ap, ◌∙◌, subst, arith}
use Rattle.std.proofs.lemmas.List.{at_drop_more, at_drop_all}
use Rattle.exact.specs.Cyclotomic.{Cyclotomic, CyclotomicLaws}
use Rattle.exact.specs.Residues.{Total, totals}
use Rattle.exact.specs.Sizes.{Within}
use Rattle.exact.specs.Sweeps.{sweep, sweep_through, total_of}
use Rattle.exact.proofs.Sizes.{within_wider}
use Rattle.exact.proofs.Totals.{totals_laws}
use Rattle.rings.specs.Plane.{sweep_bound}
use Rattle.chains.specs.Books.{Book}
use Rattle.chains.specs.Edges.{along, corners, walk_end}
use Rattle.job_rows.specs.declared.Step.{Step}
use Rattle.job_rows.specs.Shapes.{step_of}
use Rattle.edges.specs.Working.{KeptAlong, KeptWalk}
use Rattle.edges.proofs.Walking.{corners_more, corners_none, kept_more, kept_back, kept_none}
use Rattle.book.proofs.Added.{sum_within, total_add, zero_within}

module _ (E : Cyclotomic) (B : Book E) (steps : List Step) where
  -- all that the steps from 0 sweep over
  abbrev pub whole_sweep : E.Elem
  whole_sweep = sweep_through E E.zero (corners E B (map step_of steps) E.zero)

  -- after i steps, at q, with the total t
  pub record SoFar (i : ℕ) (q : E.Elem) (t : Total) : Type 0 where
    pub done : E.Elem
    pub counted : t ≡ total_of E done
    pub small : Within (i * sweep_bound) (E.list done)
    pub rest : E.add done (sweep_through E q (corners E B (map step_of (drop i steps)) q)) ≡ whole_sweep
    pub ends : walk_end E B (map step_of (drop i steps)) q ≡ walk_end E B (map step_of steps) E.zero
    pub in_range : i ≤ length steps
    pub kept_rest : KeptWalk E B (map step_of steps) E.zero → KeptWalk E B (map step_of (drop i steps)) q
    pub kept_all : KeptWalk E B (map step_of (drop i steps)) q → KeptWalk E B (map step_of steps) E.zero

  module _ (L : CyclotomicLaws E) where
    zero-total : total_of E E.zero ≡ totals.zero
    zero-total =
        let t = total_of E E.zero in
        let twice : totals.sum t t ≡ t = sym (total_add E L E.zero E.zero) ∙ ap (total_of E) (L.ring.add-zero E.zero) in
        sym (totals_laws.sum_zero t) ∙ ap (totals.sum t) (sym (totals_laws.sum_opposite t)) ∙ sym (totals_laws.sum_assoc t t (totals.opposite t))
        ∙ ap (λ s. totals.sum s (totals.opposite t)) twice ∙ totals_laws.sum_opposite t

    at_zero : (t : Total) → t ≡ totals.zero → SoFar 0 E.zero t
    at_zero t h = record {
      done = E.zero;
      counted = h ∙ sym zero-total;
      small = within_wider 0 (0 * sweep_bound) _ (omega arith) (zero_within E L);
      rest = L.ring.add_comm _ _ ∙ L.ring.add-zero _;
      ends = refl;
      in_range = omega arith;
      kept_rest = λ k. k;
      kept_all = λ k. k;
    }

    pub starts : (q : E.Elem) (t : Total) → q ≡ E.zero → t ≡ totals.zero → SoFar 0 q t
    starts q t e h = subst (λ q. SoFar 0 q t) (sym e) (at_zero t h)

    walk_end_more : (i : ℕ) (d : Step) (q : E.Elem) → i < length steps →
        walk_end E B (map step_of (drop i steps)) q ≡ walk_end E B (map step_of (drop (i + 1) steps)) (along E B (get_or steps i d).label (get_or steps i d).direction q)
    unfolding walk_end
    walk_end_more i d q h = at_drop_more (λ l. walk_end E B (map step_of l) q) steps i d h

    walk_end_none : (i : ℕ) (q : E.Elem) → length steps ≤ i → walk_end E B (map step_of (drop i steps)) q ≡ q
    unfolding walk_end
    walk_end_none i q h = at_drop_all (λ l. walk_end E B (map step_of l) q) steps i h

    on : (i : ℕ) (d : Step) (q : E.Elem) (t u : Total) → i < length steps → SoFar i q t →
        let next = along E B (get_or steps i d).label (get_or steps i d).direction q in
        KeptAlong E B (get_or steps i d).label (get_or steps i d).direction q → u ≡ totals.sum t (total_of E (sweep E q next)) → Within sweep_bound (E.list (sweep E q next)) → SoFar (i + 1) next u
    on i d q t u h s k e w =
        let next = along E B (get_or steps i d).label (get_or steps i d).direction q in
        record {
          done = E.add s.done (sweep E q next);
          counted = e ∙ ap (λ t. totals.sum t (total_of E (sweep E q next))) s.counted ∙ sym (total_add E L s.done (sweep E q next));
          small = within_wider (i * sweep_bound + sweep_bound) ((i + 1) * sweep_bound) _ (omega arith) (sum_within E L (i * sweep_bound) sweep_bound s.done (sweep E q next) s.small w);
          rest = L.ring.add_assoc _ _ _ ∙ ap (λ l. E.add s.done (sweep_through E q l)) (sym (corners_more E B steps i d q h)) ∙ s.rest;
          ends = sym (walk_end_more i d q h) ∙ s.ends;
          in_range = omega arith;
          kept_rest = λ a. (kept_more E B steps i d q h (s.kept_rest a)).1;
          kept_all = λ a. s.kept_all (kept_back E B steps i d q h k a);
        }

    pub goes_on : (i : ℕ) (d : Step) (q next : E.Elem) (t u : Total) → i < length steps → next ≡ along E B (get_or steps i d).label (get_or steps i d).direction q → SoFar i q t →
        KeptAlong E B (get_or steps i d).label (get_or steps i d).direction q → u ≡ totals.sum t (total_of E (sweep E q next)) → Within sweep_bound (E.list (sweep E q next)) → SoFar (i + 1) next u
    goes_on i d q next t u h n s k e w =
        subst (λ z. SoFar (i + 1) z u) (sym n) (on i d q t u h s k (e ∙ ap (λ z. totals.sum t (total_of E (sweep E q z))) n) (subst (λ z. Within sweep_bound (E.list (sweep E q z))) n w))

    pub stops_here : (i : ℕ) (d : Step) (q : E.Elem) (t : Total) → i < length steps → SoFar i q t → KeptWalk E B (map step_of steps) E.zero → KeptAlong E B (get_or steps i d).label (get_or steps i d).direction q
    stops_here i d q t h s k = (kept_more E B steps i d q h (s.kept_rest k)).0

    swept : (i : ℕ) (q : E.Elem) (t : Total) → length steps ≤ i → (s : SoFar i q t) → s.done ≡ whole_sweep
    swept i q t h s = sym (L.ring.add-zero _) ∙ ap (λ l. E.add s.done (sweep_through E q l)) (sym (corners_none E B steps i q h)) ∙ s.rest

    pub all_round : (i : ℕ) (q : E.Elem) (t : Total) → length steps ≤ i → SoFar i q t →
        ((q ≡ walk_end E B (map step_of steps) E.zero) × (t ≡ total_of E whole_sweep) × Within (length steps * sweep_bound) (E.list whole_sweep)) × KeptWalk E B (map step_of steps) E.zero
    all_round i q t h s =
        let e = swept i q t h s in
        let n : i ≡ length steps = omega (arith, s.in_range) in (
          (sym (walk_end_none i q h) ∙ s.ends, s.counted ∙ ap (total_of E) e, subst (λ i. Within (i * sweep_bound) (E.list whole_sweep)) n (subst (λ z. Within (i * sweep_bound) (E.list z)) e s.small)),
          s.kept_all (kept_none E B steps i q h),
        )
