-- What the laws of meters come to, as statements about the readings of one of them in every book.
use Rattle.std.specs.Prelude.{◌≡◌}
use Rattle.exact.specs.Cyclotomic.{Cyclotomic}
use Rattle.exact.specs.Groups.{AbelianGroup}
use Rattle.exact.specs.JobNumbers.{JobNumbers}
use Rattle.chains.specs.Counts.{reading}
use Rattle.chains.specs.Books.{Book, book_of}
use Rattle.chains.specs.Edges.{Edge, Chain, SameNet}
use Rattle.chains.specs.Accepted.{Accepted}
use Rattle.chains.specs.Frontiers.{Frontier, Reached, laid_outlines, lacking_outlines, seed_outlines}

-- Chains with equal net counts read alike.
abbrev pub ReadsAlike : (E : Cyclotomic) (G : AbelianGroup) → (Book E → Edge E → G.Val) → Type 0
ReadsAlike E G reads = (B : Book E) (c c' : Chain E) → SameNet E B c c' → reading G (reads B) c ≡ reading G (reads B) c'

-- After any moves from the start, what is laid and what is lacking read together as the inflated seed reads.
abbrev pub ReadsConserved : (E : Cyclotomic) (G : AbelianGroup) → (Book E → Edge E → G.Val) → Type 0
ReadsConserved E G reads = (N : JobNumbers) → Accepted E (book_of E N) → (f : Frontier) → Reached N f →
    G.sum (reading G (reads (book_of E N)) (laid_outlines E N f)) (reading G (reads (book_of E N)) (lacking_outlines E N f)) ≡ reading G (reads (book_of E N)) (seed_outlines E N)
