-- The law of sweeps: modulo 2^64 too, what an edge sweeps over is a reading of edges.
-- (Proofs, in specs: an impl may cite no others of its own crate.)
use Rattle.std.proofs.Common.{◌≡◌, List, [], ◌∷◌, length, ℤ, sym, ap, ◌∙◌}
use Rattle.std.proofs.Math.Nat.{suc_inj, suc-ne-zero}
use Rattle.exact.specs.Cyclotomic.{Cyclotomic, CyclotomicLaws}
use Rattle.exact.specs.Groups.{AbelianGroup}
use Rattle.exact.specs.Residues.{Total, totals}
use Rattle.exact.specs.Sweeps.{row_total, total_of}
use Rattle.exact.proofs.Totals.{Sums, row_sum, residue_add, totals_laws}
use Rattle.rings.specs.Tied.{TiedToTotals}
use Rattle.rings.proofs.Added.{added, list_add}
use Rattle.rings.proofs.Multiples as multiples
use Rattle.chains.specs.Books.{Book}
use Rattle.chains.specs.Edges.{edge_sweep, ReadsEdges}
use Rattle.chains.proofs.Sweeping as sweeping
use Rattle.meters.specs.Tied.{Tied}

pub tied_totals : {V : Type 0} (G : AbelianGroup) (worth : V → G.Val) (total : V → Total) → TiedToTotals G worth total → Tied G worth totals total
tied_totals G worth total t = record { zero = t.zero; sum = t.sum; opposite = t.opposite }

sums_of : (l m : List ℤ) → length l ≡ length m → Sums l m (added l m)
sums_of [] [] h = tt
sums_of [] (b ∷ m) h = absurd (suc-ne-zero (length m) (sym h))
sums_of (a ∷ l) [] h = absurd (suc-ne-zero (length l) h)
sums_of (a ∷ l) (b ∷ m) h = (residue_add a b, sums_of l m (suc_inj h))

module _ (E : Cyclotomic) (L : CyclotomicLaws E) where
  total_add : (x y : E.Elem) → total_of E (E.add x y) ≡ totals.sum (total_of E x) (total_of E y)
  total_add x y = ap row_total (list_add E L x y) ∙ row_sum (E.list x) (E.list y) (added (E.list x) (E.list y)) (sums_of (E.list x) (E.list y) (L.list_length x ∙ sym (L.list_length y)))

  total_zero : total_of E E.zero ≡ totals.zero
  total_zero =
      let t = total_of E E.zero in
      sym (totals_laws.sum_zero t) ∙ ap (totals.sum t) (sym (totals_laws.sum_opposite t)) ∙ sym (totals_laws.sum_assoc t t (totals.opposite t))
      ∙ ap (λ s. totals.sum s (totals.opposite t)) (sym (total_add E.zero E.zero) ∙ ap (total_of E) (L.ring.add-zero E.zero)) ∙ totals_laws.sum_opposite t

  total_neg : (x : E.Elem) → total_of E (E.neg x) ≡ totals.opposite (total_of E x)
  total_neg x = multiples.opposite_is totals totals_laws (total_of E x) (total_of E (E.neg x)) (sym (total_add x (E.neg x)) ∙ ap (total_of E) (L.ring.add_neg x) ∙ total_zero)

  pub sweeps_read : (B : Book E) → ReadsEdges E B totals (λ x. total_of E (edge_sweep E B x))
  sweeps_read B =
      let r = (sweeping.sweeps_read E L).reads B in
      record { modulo_n = λ x. ap (total_of E) (r.modulo_n x); from_the_other_end = λ x plain. ap (total_of E) (r.from_the_other_end x plain) ∙ total_neg (edge_sweep E B x) }
