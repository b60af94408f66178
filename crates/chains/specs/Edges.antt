-- Directed, labelled edges, the chains that steps make of them, and net counts.
use Rattle.std.specs.Prelude.{◌≡◌, ℕ, ◌+◌, ◌-◌, ◌%◌, Bool, false, cond, ◌&&◌, ◌||◌, List, [], ◌∷◌, map, ℤ, pos, negsuc, neg_ℤ, ◌==◌, nat_lt}
use Rattle.exact.specs.Cyclotomic.{Cyclotomic, power, half, same_element}
use Rattle.exact.specs.Groups.{AbelianGroup}
use Rattle.exact.specs.JobNumbers.{Step}
use Rattle.exact.specs.Sweeps.{sweep}
use Rattle.chains.specs.Counts.{Counted, tally}
use Rattle.chains.specs.Books.{Book, label_at}

-- Directions and turns count n-ths of a turn, modulo n: k + j and k - j.
unfoldable pub plus_turn : Cyclotomic → ℕ → ℕ → ℕ
plus_turn E k j = (k + j) % E.n

unfoldable pub minus_turn : Cyclotomic → ℕ → ℕ → ℕ
minus_turn E k j = (k + (E.n - j % E.n)) % E.n

pub record Edge (E : Cyclotomic) : Type 0 where
  pub label : ℕ
  pub direction : ℕ
  pub start : E.Elem

-- the edge [e, j, p]
unfoldable pub edge : (E : Cyclotomic) → ℕ → ℕ → E.Elem → Edge E
edge E e j p = record { label = e; direction = j % E.n; start = p }

unfoldable pub same_edge : (E : Cyclotomic) → Edge E → Edge E → Bool
same_edge E x y = x.label == y.label && x.direction == y.direction && same_element E x.start y.start

-- a chain: edges with whole counts
abbrev pub Chain : Cyclotomic → Type 0
Chain E = List (Counted (Edge E))

module _ (E : Cyclotomic) (B : Book E) where
  -- where label e in direction j leads to from q
  unfoldable pub along : ℕ → ℕ → E.Elem → E.Elem
  along e j q = E.add q (E.mul (power E j) (label_at B e).length)

  -- an edge from its other end
  unfoldable pub reversed : Edge E → Edge E
  reversed x = edge E x.label (x.direction + half E) (along x.label x.direction x.start)

  -- Canonical form: a plain edge of direction n/2 or more is written from its other end, with the count's sign turned.
  unfoldable pub canonical : Counted (Edge E) → Counted (Edge E)
  canonical x = cond ((label_at B x.what.label).arrowed || nat_lt (x.what.direction % E.n) (half E))
      (record { what = edge E x.what.label x.what.direction x.what.start; count = x.count })
      (record { what = reversed x.what; count = neg_ℤ x.count })

  -- The net count of an edge is the sum of its counts. An edge that is not in canonical form is counted as the one that it is written as, so its own net count is 0.
  unfoldable pub net : Chain E → Edge E → ℤ
  net c y = tally (same_edge E) (map canonical c) y

  -- equal net counts at every edge
  abbrev pub SameNet : Chain E → Chain E → Type 0
  SameNet c c' = (y : Edge E) → net c y ≡ net c' y

  -- What a step from q counts: forward its edge by +1, backward the edge from the step's end to q by -1.
  unfoldable pub step_count : Step → E.Elem → Counted (Edge E)
  step_count s q = cond s.forward
      (record { what = edge E s.label s.direction q; count = pos 1 })
      (record { what = edge E s.label (s.direction + half E) (along s.label s.direction q); count = negsuc 0 })

  -- steps one after another, each from where the last one ended
  unfoldable pub walk : List Step → E.Elem → Chain E
  walk [] q = []
  walk (s ∷ ss) q = step_count s q ∷ walk ss (along s.label s.direction q)

  -- the points that steps from q come to
  unfoldable pub corners : List Step → E.Elem → List E.Elem
  corners [] q = []
  corners (s ∷ ss) q = along s.label s.direction q ∷ corners ss (along s.label s.direction q)

  -- where steps from q end
  unfoldable pub walk_end : List Step → E.Elem → E.Elem
  walk_end [] q = q
  walk_end (s ∷ ss) q = walk_end ss (along s.label s.direction q)

  -- r reads edges: directions count modulo n, and a plain edge read from its other end gives the opposite
  pub record ReadsEdges (G : AbelianGroup) (r : Edge E → G.Val) : Type 0 where
    pub modulo_n : (x : Edge E) → r (edge E x.label x.direction x.start) ≡ r x
    pub from_the_other_end : (x : Edge E) → (label_at B x.label).arrowed ≡ false → r (reversed x) ≡ G.opposite (r x)

-- the elements of a ring with their sums, as a group to read edges into
abbrev pub sums : Cyclotomic → AbelianGroup
sums E = record { Val = E.Elem; zero = E.zero; sum = E.add; opposite = E.neg }

-- the sweep from an edge's start to its end
unfoldable pub edge_sweep : (E : Cyclotomic) → Book E → Edge E → E.Elem
edge_sweep E B x = sweep E x.start (along E B x.label x.direction x.start)
