-- Both books are accepted and can be gone down, so the law holds for them.
use Rattle.std.proofs.Common.{ℕ, ◌≤◌, List, arith}
use Rattle.exact.specs.Cyclotomic.{Cyclotomic, CyclotomicLaws}
use Rattle.exact.specs.JobNumbers.{PlacedNumbers, JobNumbers}
use Rattle.exact.proofs.GaussianLaws.{gaussian_laws}
use Rattle.exact.proofs.TenfoldLaws.{tenfold_laws}
use Rattle.exact.proofs.Totals.{totals_laws}
use Rattle.exact.specs.Residues.{residue, totals}
use Rattle.exact.specs.Sweeps.{total_of}
use Rattle.chains.specs.Accepted.{Accepted}
use Rattle.chains.specs.Books.{book_of}
use Rattle.chains.specs.Edges.{edge_sweep}
use Rattle.chains.specs.Examples.{chair, penrose}
use Rattle.chains.proofs.Examples.{chair_accepted, penrose_accepted}
use Rattle.jobs.specs.Limits.{most_depth}
use Rattle.ring_jobs.specs.Shapes.{Branching}
use Rattle.meters.specs.Counts.{residues, watched}
use Rattle.meters.specs.CountLaws.{residues_laws, watch_reads}
use Rattle.meters.specs.SweepLaws.{sweeps_read}
use Rattle.conservation.specs.TwoBooks.{SeedsAmong, ConservesForBoth, TwoBooksConserve}
use Rattle.conservation.proofs.Conserved.{conserves}

for_both : (E : Cyclotomic) → CyclotomicLaws E → (N : JobNumbers) → Branching N → Accepted E (book_of E N) → ConservesForBoth E N
for_both E L N B A = record {
  sweeps = conserves E L N B A totals totals_laws (λ x. total_of E (edge_sweep E (book_of E N) x)) (sweeps_read E L (book_of E N));
  watches = λ w. conserves E L N B A residues residues_laws (λ x. residue (watched E (book_of E N) w x)) (watch_reads E L (book_of E N) w);
}

chair_branches : (depth : ℕ) (seeds : List PlacedNumbers) → depth ≤ most_depth → SeedsAmong 1 seeds → Branching (chair depth seeds)
chair_branches depth seeds h s = record {
  shallow = h;
  seeded = s.some;
  seeds_named = s.named;
  families = (omega arith, tt);
  children_named = ((omega arith, (omega arith, (omega arith, (omega arith, tt)))), tt);
}

penrose_branches : (depth : ℕ) (seeds : List PlacedNumbers) → depth ≤ most_depth → SeedsAmong 2 seeds → Branching (penrose depth seeds)
penrose_branches depth seeds h s = record {
  shallow = h;
  seeded = s.some;
  seeds_named = s.named;
  families = (omega arith, (omega arith, tt));
  children_named = ((omega arith, (omega arith, (omega arith, tt))), ((omega arith, (omega arith, tt)), tt));
}

pub two_books : TwoBooksConserve
two_books = record {
  over_the_chair = λ depth seeds h s. for_both _ gaussian_laws (chair depth seeds) (chair_branches depth seeds h s) (chair_accepted depth seeds);
  over_penrose = λ depth seeds h s. for_both _ tenfold_laws (penrose depth seeds) (penrose_branches depth seeds h s) (penrose_accepted depth seeds);
}
