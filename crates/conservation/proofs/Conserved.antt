-- The law holds after any calls.
use Rattle.std.proofs.Common.{ℕ, List}
use Rattle.exact.specs.Cyclotomic.{Cyclotomic, CyclotomicLaws}
use Rattle.exact.specs.Groups.{AbelianGroup, AbelianLaws}
use Rattle.exact.specs.JobNumbers.{JobNumbers}
use Rattle.chains.specs.Books.{book_of}
use Rattle.chains.specs.Edges.{Edge, ReadsEdges}
use Rattle.chains.specs.Accepted.{Accepted}
use Rattle.ring_jobs.specs.Shapes.{Branching}
use Rattle.runs.specs.Runs.{Call, begun, run}
use Rattle.runs.proofs.Laws.{nodes_kept, conserving, reading_conserved, resuming_lawful, refusing_others, telling_where}
use Rattle.conservation.specs.Law.{Unmetered, Conservation, Conserves, ConservesUnmetered}

module _ (E : Cyclotomic) (L : CyclotomicLaws E) (N : JobNumbers) (B : Branching N) (A : Accepted E (book_of E N)) where
  unmetered : (room : ℕ) (calls : List Call) → Unmetered E N room (run E N room calls (begun E N))
  unmetered room calls =
      let s = run E N room calls (begun E N) in
      record {
        nodes = nodes_kept E N B room calls;
        boundary = conserving E L N B A room calls;
        lawful = resuming_lawful E L N B room s;
        unlawful = refusing_others E L N B room s;
        where_bad = telling_where E L N B room s;
      }

  pub conserves_unmetered : (room : ℕ) (calls : List Call) → ConservesUnmetered E N room calls
  conserves_unmetered room calls before after e = unmetered room before

  module _ (G : AbelianGroup) (M : AbelianLaws G) (r : Edge E → G.Val) (R : ReadsEdges E (book_of E N) G r) where
    conserved : (room : ℕ) (calls : List Call) → Conservation E N G r room (run E N room calls (begun E N))
    conserved room calls =
        let both = reading_conserved E L N B A G M r R room calls in
        record { unmetered = unmetered room calls; reading = both.0; finished_reading = both.1 }

    pub conserves : (room : ℕ) (calls : List Call) → Conserves E N G r room calls
    conserves room calls before after e = conserved room before
