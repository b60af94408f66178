-- The law applied: to the chair over Z[i], and to Penrose's book over Z[ζ10].
use Rattle.std.specs.Prelude.{ℕ, ◌<◌, ◌≤◌, List, length}
use Rattle.std.specs.List.{AllByRecursion}
use Rattle.exact.specs.Cyclotomic.{Cyclotomic}
use Rattle.exact.specs.JobNumbers.{PlacedNumbers, JobNumbers}
use Rattle.exact.specs.Models.{gaussian, tenfold}
use Rattle.exact.specs.Residues.{residue, totals}
use Rattle.exact.specs.Sweeps.{total_of}
use Rattle.chains.specs.Books.{book_of}
use Rattle.chains.specs.Edges.{Edge, edge_sweep}
use Rattle.chains.specs.Examples.{chair, penrose}
use Rattle.jobs.specs.Limits.{most_depth}
use Rattle.meters.specs.Counts.{residues, watched}
use Rattle.runs.specs.Runs.{Call}
use Rattle.conservation.specs.Law.{Conserves}

-- at least one seed tile, and each is one of so many tiles
pub record SeedsAmong (tiles : ℕ) (seeds : List PlacedNumbers) : Type 0 where
  pub some : 0 < length seeds
  pub named : AllByRecursion (λ (p : PlacedNumbers). p.tile < tiles) seeds

-- after any calls on a new sheet, with a list of any length, the law holds for the sweep meter, and for a watch on any edge
pub record ConservesForBoth (E : Cyclotomic) (N : JobNumbers) : Type 0 where
  pub sweeps : (room : ℕ) (calls : List Call) → Conserves E N totals (λ x. total_of E (edge_sweep E (book_of E N) x)) room calls
  pub watches : (w : Edge E) (room : ℕ) (calls : List Call) → Conserves E N residues (λ x. residue (watched E (book_of E N) w x)) room calls

-- it does for every job over the chair, and for every job over Penrose's book
pub record TwoBooksConserve : Type 0 where
  pub over_the_chair : (depth : ℕ) (seeds : List PlacedNumbers) → depth ≤ most_depth → SeedsAmong 1 seeds → ConservesForBoth gaussian (chair depth seeds)
  pub over_penrose : (depth : ℕ) (seeds : List PlacedNumbers) → depth ≤ most_depth → SeedsAmong 2 seeds → ConservesForBoth tenfold (penrose depth seeds)
