-- Inflation: every edge gives way to its label's subdivision.
use Rattle.std.specs.Prelude.{ℕ, List, [], ◌∷◌, ◌++◌}
use Rattle.exact.specs.Cyclotomic.{Cyclotomic}
use Rattle.exact.specs.JobNumbers.{Part, Step}
use Rattle.chains.specs.Counts.{scaled}
use Rattle.chains.specs.Books.{Book, label_at}
use Rattle.chains.specs.Edges.{Edge, Chain, walk}

-- the parts of a subdivision as steps, all in direction j
unfoldable pub stepped : ℕ → List Part → List Step
stepped j [] = []
stepped j (p ∷ ps) = record { label = p.label; forward = p.forward; direction = j } ∷ stepped j ps

module _ (E : Cyclotomic) (B : Book E) where
  -- [e, j, p] becomes e's subdivision, stepped in direction j from F·p
  unfoldable pub subdivided : Edge E → Chain E
  subdivided x = walk E B (stepped x.direction (label_at B x.label).subdivision) (E.mul B.factor x.start)

  -- a chain inflated once: an edge's count multiplies all of its parts' counts
  unfoldable pub inflate : Chain E → Chain E
  inflate [] = []
  inflate (x ∷ xs) = scaled x.count (subdivided x.what) ++ inflate xs

  -- a chain inflated k times
  unfoldable pub inflated : ℕ → Chain E → Chain E
  inflated ℕ.zero c = c
  inflated (ℕ.suc k) c = inflated k (inflate c)
