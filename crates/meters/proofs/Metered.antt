-- A meter's readings are readings of edges, so all that is proved of those holds of them.
use Rattle.exact.specs.Cyclotomic.{Cyclotomic, CyclotomicLaws}
use Rattle.exact.specs.Groups.{AbelianGroup, AbelianLaws}
use Rattle.chains.specs.Books.{Book, book_of}
use Rattle.chains.specs.Edges.{Edge, ReadsEdges}
use Rattle.chains.specs.Accepted.{Accepted}
use Rattle.chains.specs.Theorems.{RealLengths}
use Rattle.chains.proofs.Edges.{cancels}
use Rattle.chains.proofs.Conserving.{readings_conserved}
use Rattle.meters.specs.Theorems.{ReadsAlike, ReadsConserved}

-- an accepted book's lengths are real
pub accepted_real : (E : Cyclotomic) (B : Book E) → Accepted E B → RealLengths E B
accepted_real E B a e h = (a.lengths_fit e h).real

module _ (E : Cyclotomic) (L : CyclotomicLaws E) (G : AbelianGroup) (M : AbelianLaws G) (reads : Book E → Edge E → G.Val) (law : (B : Book E) → ReadsEdges E B G (reads B)) where
  pub reads_alike : ReadsAlike E G reads
  reads_alike B = cancels E L B G M (reads B) (law B)

  pub reads_conserved : ReadsConserved E G reads
  reads_conserved N a = readings_conserved E L N a G M (reads (book_of E N)) (law (book_of E N))
