-- The sweep from start to end is a reading of edges, and an outline's reading by it is its total sweep.
use Rattle.std.proofs.Common.{◌≡◌, ℕ, ◌+◌, Bool, true, false, List, [], ◌∷◌, refl, ap, ◌∙◌, ap₂}
use Rattle.exact.specs.Cyclotomic.{Cyclotomic, CyclotomicLaws, half}
use Rattle.exact.specs.Groups.{repeated, times}
use Rattle.exact.specs.JobNumbers.{Step}
use Rattle.exact.specs.Sweeps.{sweep, sweep_through}
use Rattle.exact.proofs.Powers.{ring_of}
use Rattle.exact.proofs.Solver as solver
use Rattle.chains.specs.Counts.{Counted, reading}
use Rattle.chains.specs.Books.{Book, tile_at}
use Rattle.chains.specs.Edges.{Edge, along, edge, reversed, step_count, walk, corners, ReadsEdges, sums, edge_sweep}
use Rattle.chains.specs.Placements.{outline}
use Rattle.chains.specs.Accepted.{total_sweep}
use Rattle.chains.specs.Theorems.{SweepsReadEdges}
use Rattle.chains.proofs.Edges as edges

module _ (E : Cyclotomic) (L : CyclotomicLaws E) where
  -- backwards it sweeps the opposite
  sweep_back : (p q : E.Elem) → sweep E q p ≡ E.neg (sweep E p q)
  sweep_back p q = solver.solve (ring_of E L) (p ∷ q ∷ E.conj p ∷ E.conj q ∷ [])
      (solver.plus (solver.times (solver.v 3) (solver.v 0)) (solver.minus (solver.times (solver.v 1) (solver.v 2))))
      (solver.minus (solver.plus (solver.times (solver.v 2) (solver.v 1)) (solver.minus (solver.times (solver.v 0) (solver.v 3))))) tt

  module _ (B : Book E) where
    sweep_along : (e j : ℕ) (q : E.Elem) → edge_sweep E B (edge E e j q) ≡ sweep E q (along E B e j q)
    unfolding edge_sweep edge
    sweep_along e j q = ap (sweep E q) (edges.along_mod E L B e j q)

    -- from the end back to the start
    sweep_returning : (e j : ℕ) (q : E.Elem) → edge_sweep E B (edge E e (j + half E) (along E B e j q)) ≡ E.neg (sweep E q (along E B e j q))
    sweep_returning e j q = sweep_along e (j + half E) (along E B e j q) ∙ ap (sweep E (along E B e j q)) (edges.along_back E L B e j q) ∙ sweep_back q (along E B e j q)

    reads_edges : ReadsEdges E B (sums E) (edge_sweep E B)
    unfolding reversed edge_sweep
    reads_edges = record {
      modulo_n = λ x. sweep_along x.label x.direction x.start;
      from_the_other_end = λ x plain. sweep_returning x.label x.direction x.start;
    }

    -- a step's count times its edge's sweep is the sweep of the step
    step_sweep : (e j : ℕ) (f : Bool) (q : E.Elem) →
        let c : Counted (Edge E) = step_count E B (record { label = e; forward = f; direction = j }) q in
        times (sums E) c.count (edge_sweep E B c.what) ≡ sweep E q (along E B e j q)
    unfolding step_count times repeated
    step_sweep e j true q = L.ring.add-zero _ ∙ sweep_along e j q
    step_sweep e j false q = ap E.neg (L.ring.add-zero _ ∙ sweep_returning e j q) ∙ solver.neg_neg (ring_of E L) _

    walk_sweep : (ss : List Step) (q : E.Elem) → reading (sums E) (edge_sweep E B) (walk E B ss q) ≡ sweep_through E q (corners E B ss q)
    unfolding reading walk corners
    walk_sweep [] q = refl
    walk_sweep (s ∷ ss) q = ap₂ E.add (step_sweep s.label s.direction s.forward q) (walk_sweep ss (along E B s.label s.direction q))

    outline_sweep : (t : ℕ) → reading (sums E) (edge_sweep E B) (outline E B t) ≡ total_sweep E B t
    unfolding outline total_sweep
    outline_sweep t = walk_sweep (tile_at B t).outline E.zero

  pub sweeps_read : SweepsReadEdges E
  sweeps_read = record { reads = reads_edges; outline_reads = outline_sweep }
