-- The laws of counts: whole numbers modulo 2^64 form a group, and the count of one edge is a reading of edges.
-- (Proofs, in specs: an impl may cite no others of its own crate.)
use Rattle.std.proofs.Common.{◌≡◌, ℕ, ◌+◌, ◌%◌, Bool, true, false, cond, not, ◌&&◌, ltb, ℤ, pos, negsuc, neg_ℤ, sym, refl, ap, ◌∙◌, ap₂, true≢false, ltb-true, ltb-false}
use mathlib.Core.Bool.{false≢true}
use lib.IntN.{+ℤ_idl}
use Rattle.std.proofs.lemmas.Bool.{lt-ltb, le-ltb}
use Rattle.exact.specs.Cyclotomic.{Cyclotomic, CyclotomicLaws, half}
use Rattle.exact.specs.Groups.{AbelianLaws}
use Rattle.exact.specs.Residues.{Total, residue}
use Rattle.exact.proofs.Totals.{totals_laws, residue_neg}
use Rattle.chains.specs.Books.{Book, label_at}
use Rattle.chains.specs.Edges.{Edge, edge, along, reversed, same_edge, ReadsEdges}
use Rattle.chains.proofs.Edges as edges
use Rattle.chains.proofs.Turns as turns
use Rattle.meters.specs.Counts.{residues, reduced, watched}

-- a number is a total that has it everywhere
pub residues_laws : AbelianLaws residues
residues_laws = record {
  sum_comm = λ x y. ap (λ (t : Total). t 0) (totals_laws.sum_comm (λ k. x) (λ k. y));
  sum_assoc = λ x y z. ap (λ (t : Total). t 0) (totals_laws.sum_assoc (λ k. x) (λ k. y) (λ k. z));
  sum_zero = λ x. ap (λ (t : Total). t 0) (totals_laws.sum_zero (λ k. x));
  sum_opposite = λ x. ap (λ (t : Total). t 0) (totals_laws.sum_opposite (λ k. x));
}

-- the count of an edge that is the one watched or not, of a kind, and from its other end is the one watched or not
abbrev told : Bool → Bool → Bool → ℤ
told here arrowed there = cond here (pos 1) (cond (not arrowed && there) (negsuc 0) (pos 0))

told_back : (a b : Bool) → (a ≡ true → b ≡ true → ⊥) → told b false a ≡ neg_ℤ (told a false b)
told_back true true h = absurd (h refl refl)
told_back true false h = refl
told_back false true h = refl
told_back false false h = refl

module _ (E : Cyclotomic) (L : CyclotomicLaws E) where
  -- no direction is its own opposite
  no_opposite : (j : ℕ) → j % E.n ≡ (j + half E) % E.n → ⊥
  no_opposite j h = go (ltb (j % E.n) (half E)) refl
    where
      go : (b : Bool) → ltb (j % E.n) (half E) ≡ b → ⊥
      go true e = true≢false (sym e ∙ ap (λ i. ltb i (half E)) h ∙ le-ltb _ _ (turns.low_then_high E L j (ltb-true _ _ e)))
      go false e = false≢true (sym e ∙ ap (λ i. ltb i (half E)) h ∙ lt-ltb _ _ (turns.high_then_low E L j (ltb-false _ _ e)))

  module _ (B : Book E) where
    reduced_twice : (x : Edge E) → reduced E (reduced E x) ≡ reduced E x
    unfolding edge
    reduced_twice x = edges.edge_mod E L B x.label x.direction x.start

    reduced_reversed : (x : Edge E) → reduced E (reversed E B x) ≡ reversed E B x
    unfolding edge reversed
    reduced_reversed x = edges.edge_mod E L B x.label (x.direction + half E) (along E B x.label x.direction x.start)

    reversed_reduced : (x : Edge E) → reversed E B (reduced E x) ≡ reversed E B x
    unfolding reversed
    reversed_reduced x = edges.reversed_edge E L B x.label x.direction x.start

    -- an edge and the same from its other end are two
    two_edges : (x w : Edge E) → same_edge E (reduced E x) w ≡ true → same_edge E (reversed E B x) w ≡ true → ⊥
    unfolding edge reversed
    two_edges x w a b = no_opposite x.direction (ap (λ (z : Edge E). z.direction) ((edges.same_edge_is E L _ _).0 a ∙ sym ((edges.same_edge_is E L _ _).0 b)))

    module _ (w : Edge E) where
      abbrev at : Edge E → Bool
      at x = same_edge E x (reduced E w)

      watched_reduced : (x : Edge E) → watched E B w (reduced E x) ≡ watched E B w x
      unfolding watched edge
      watched_reduced x = ap₂ (λ y z. told (at y) (label_at B x.label).arrowed (at z)) (reduced_twice x) (reversed_reduced x)

      watched_reversed : (x : Edge E) → (label_at B x.label).arrowed ≡ false → watched E B w (reversed E B x) ≡ neg_ℤ (watched E B w x)
      unfolding watched edge reversed
      watched_reversed x plain =
          ap₂ (λ y z. told (at y) (label_at B x.label).arrowed (at z)) (reduced_reversed x) (edges.reversed_reversed E L B x)
          ∙ ap (λ k. told (at (reversed E B x)) k (at (reduced E x))) plain
          ∙ told_back (at (reduced E x)) (at (reversed E B x)) (two_edges x (reduced E w))
          ∙ ap (λ k. neg_ℤ (told (at (reduced E x)) k (at (reversed E B x)))) (sym plain)

      pub watch_reads : ReadsEdges E B residues (λ x. residue (watched E B w x))
      watch_reads = record {
        modulo_n = λ x. ap residue (watched_reduced x);
        from_the_other_end = λ x plain. ap residue (watched_reversed x plain ∙ sym (+ℤ_idl _)) ∙ residue_neg (watched E B w x);
      }
