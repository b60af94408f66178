-- Two books, as a job's numbers: the chair, over Z[i], and Penrose's half kites and half darts, over Z[ζ10].
use Rattle.std.specs.Prelude.{◌≡◌, ℕ, Bool, true, false, List, [], ◌∷◌, map, ℤ, pos, negsuc}
use Rattle.exact.specs.JobNumbers.{Part, Step, PlacedNumbers, JobNumbers}
use Rattle.exact.specs.Models.{gaussian, tenfold}
use Rattle.chains.specs.Books.{Placement, placement_of, tile_at, book_of}
use Rattle.chains.specs.Edges.{Edge, net}
use Rattle.chains.specs.Inflation.{inflate}
use Rattle.chains.specs.Placements.{outline, outlines}
use Rattle.chains.specs.Accepted.{FactorAboveOne, LengthAboveZero, SubdivisionFits, OutlineCloses, ChildrenBalance, Accepted, total_sweep}
use Rattle.chains.specs.Addresses.{Address}
use Rattle.chains.specs.Frontiers.{Frontier, Reached, laid_outlines, lacking_outlines, seed_outlines}

-- what a step, a part and a child are written as
abbrev pub part : ℕ → Bool → Part
part e s = record { label = e; forward = s }

abbrev pub step : ℕ → Bool → ℕ → Step
step e s j = record { label = e; forward = s; direction = j }

abbrev pub put : ℕ → ℕ → Bool → List ℤ → PlacedNumbers
put t k m v = record { tile = t; turn = k; mirrored = m; place = v }

abbrev pub two : ℤ → ℤ → List ℤ
two a b = a ∷ b ∷ []

abbrev pub four : ℤ → ℤ → ℤ → ℤ → List ℤ
four a b c d = a ∷ b ∷ c ∷ d ∷ []

-- A book with one plain label and one tile, over Z[i].
abbrev pub plain_book : List ℤ → List ℤ → List Part → List Step → List PlacedNumbers → ℕ → List PlacedNumbers → JobNumbers
plain_book factor length subdivision outline children depth seeds = record {
  order = 4;
  rank = 2;
  factor = factor;
  labels = record { arrowed = false; length = length; subdivision = subdivision } ∷ [];
  tiles = record { outline = outline; children = children } ∷ [];
  depth = depth;
  seeds = seeds;
}

-- The chair: three unit squares in an L, cut into four chairs at twice the size. The label's length is 1.
abbrev pub halves : List Part
halves = part 0 true ∷ part 0 true ∷ []

abbrev pub chair_outline : List Step
chair_outline = step 0 true 0 ∷ step 0 true 0 ∷ step 0 true 1 ∷ step 0 true 2 ∷ step 0 true 1 ∷ step 0 true 2 ∷ step 0 true 3 ∷ step 0 true 3 ∷ []

abbrev pub chair_children : List PlacedNumbers
chair_children = put 0 0 false (two (pos 0) (pos 0)) ∷ put 0 0 false (two (pos 1) (pos 1)) ∷ put 0 1 false (two (pos 4) (pos 0)) ∷ put 0 3 false (two (pos 0) (pos 4)) ∷ []

abbrev pub chair : ℕ → List PlacedNumbers → JobNumbers
chair = plain_book (two (pos 2) (pos 0)) (two (pos 1) (pos 0)) halves chair_outline chair_children

-- Penrose's tiles: two triangles with arrowed edges of lengths φ and 1, cut at φ times the size; some of the children are mirrored.
abbrev pub penrose : ℕ → List PlacedNumbers → JobNumbers
penrose depth seeds = record {
  order = 10;
  rank = 4;
  factor = four (pos 1) (pos 0) (pos 1) (negsuc 0);
  labels = record { arrowed = true; length = four (pos 1) (pos 0) (pos 1) (negsuc 0); subdivision = part 0 true ∷ part 1 true ∷ [] }
      ∷ record { arrowed = true; length = four (pos 1) (pos 0) (pos 0) (pos 0); subdivision = part 0 true ∷ [] } ∷ [];
  tiles = record {
    outline = step 0 false 0 ∷ step 1 true 3 ∷ step 0 false 6 ∷ [];
    children = put 0 4 true (four (pos 2) (pos 0) (pos 1) (negsuc 0)) ∷ put 0 4 false (four (pos 2) (pos 0) (pos 1) (negsuc 0)) ∷ put 1 1 true (four (pos 0) (pos 0) (pos 0) (pos 0)) ∷ [];
  } ∷ record {
    outline = step 0 true 0 ∷ step 1 true 4 ∷ step 1 true 6 ∷ [];
    children = put 0 1 true (four (pos 0) (pos 0) (pos 0) (pos 0)) ∷ put 1 4 false (four (pos 2) (pos 0) (pos 1) (negsuc 0)) ∷ [];
  } ∷ [];
  depth = depth;
  seeds = seeds;
}

-- Both books are accepted, at every depth and from every seed.
abbrev pub ChairIsAccepted : Type 0
ChairIsAccepted = (depth : ℕ) (seeds : List PlacedNumbers) → Accepted gaussian (book_of gaussian (chair depth seeds))

abbrev pub PenroseIsAccepted : Type 0
PenroseIsAccepted = (depth : ℕ) (seeds : List PlacedNumbers) → Accepted tenfold (book_of tenfold (penrose depth seeds))

-- One chair at 0, to be inflated once; its first child is laid, the others are pending.
abbrev pub one_chair : JobNumbers
one_chair = chair 1 (put 0 0 false (two (pos 0) (pos 0)) ∷ [])

abbrev pub chair_child : ℕ → Address
chair_child i = record { seed = 0; path = i ∷ [] }

abbrev pub one_chair_laid : Frontier
one_chair_laid = record { laid = chair_child 0 ∷ []; aside = []; pending = chair_child 1 ∷ chair_child 2 ∷ chair_child 3 ∷ [] }

-- Two moves later: the second child is laid too, the third is set aside.
abbrev pub one_chair_aside : Frontier
one_chair_aside = record { laid = chair_child 0 ∷ chair_child 1 ∷ []; aside = chair_child 2 ∷ []; pending = chair_child 3 ∷ [] }

-- the edge [0, 0, (1,1)]
abbrev pub inner_edge : Edge gaussian
inner_edge = record { label = 0; direction = 0; start = gaussian.of (two (pos 1) (pos 1)) }

-- Both frontiers are reached; over the first, the edge counts -1 over what is laid, +1 over what is pending, 0 over the seed's inflated outline.
pub record OneChairLaidCounts : Type 0 where
  pub reached : Reached one_chair one_chair_laid
  pub reached_later : Reached one_chair one_chair_aside
  pub laid_counts : net gaussian (book_of gaussian one_chair) (laid_outlines gaussian one_chair one_chair_laid) inner_edge ≡ negsuc 0
  pub pending_counts : net gaussian (book_of gaussian one_chair) (lacking_outlines gaussian one_chair one_chair_laid) inner_edge ≡ pos 1
  pub seed_counts : net gaussian (book_of gaussian one_chair) (seed_outlines gaussian one_chair) inner_edge ≡ pos 0

-- The outlines' total sweeps.
pub record OutlineSweeps : Type 0 where
  pub chair_sweep : total_sweep gaussian (book_of gaussian (chair 0 [])) 0 ≡ gaussian.of (two (pos 0) (pos 12))
  pub penrose_sweep_0 : total_sweep tenfold (book_of tenfold (penrose 0 [])) 0 ≡ tenfold.of (four (negsuc 0) (pos 2) (pos 0) (pos 2))
  pub penrose_sweep_1 : total_sweep tenfold (book_of tenfold (penrose 0 [])) 1 ≡ tenfold.of (four (pos 0) (pos 0) (pos 1) (pos 1))

-- The first two children of Penrose's tile 0 differ in nothing but the mirror mark. Here the first has the mark m.
abbrev pub children_with_mark : Bool → List (Placement tenfold)
children_with_mark m = map (placement_of tenfold)
    (put 0 4 m (four (pos 2) (pos 0) (pos 1) (negsuc 0)) ∷ put 0 4 false (four (pos 2) (pos 0) (pos 1) (negsuc 0)) ∷ put 1 1 true (four (pos 0) (pos 0) (pos 0) (pos 0)) ∷ [])

-- their common edge, [0, 9, (1,0,1,0)]
abbrev pub common_edge : Edge tenfold
common_edge = record { label = 0; direction = 9; start = tenfold.of (four (pos 1) (pos 0) (pos 1) (pos 0)) }

-- The edge is inside the parent, which counts it by 0. So do the children, but with the wrong mark they count it by -2.
pub record WrongMarkShows : Type 0 where
  pub the_parent : net tenfold (book_of tenfold (penrose 0 [])) (inflate tenfold (book_of tenfold (penrose 0 [])) (outline tenfold (book_of tenfold (penrose 0 [])) 0)) common_edge ≡ pos 0
  pub the_children : (tile_at (book_of tenfold (penrose 0 [])) 0).children ≡ children_with_mark true
  pub the_right_mark : net tenfold (book_of tenfold (penrose 0 [])) (outlines tenfold (book_of tenfold (penrose 0 [])) (children_with_mark true)) common_edge ≡ pos 0
  pub the_wrong_mark : net tenfold (book_of tenfold (penrose 0 [])) (outlines tenfold (book_of tenfold (penrose 0 [])) (children_with_mark false)) common_edge ≡ negsuc 1

-- Each condition refuses something: the chair's book with one thing altered.
pub record EachConditionRefuses : Type 0 where
  -- the factor 1, and the factor i, which is not real
  pub factor_one : FactorAboveOne gaussian (book_of gaussian (plain_book (two (pos 1) (pos 0)) (two (pos 1) (pos 0)) halves chair_outline chair_children 0 [])) → ⊥
  pub factor_i : FactorAboveOne gaussian (book_of gaussian (plain_book (two (pos 0) (pos 1)) (two (pos 1) (pos 0)) halves chair_outline chair_children 0 [])) → ⊥
  -- the length -1
  pub length_below_zero : LengthAboveZero gaussian (book_of gaussian (plain_book (two (pos 2) (pos 0)) (two (negsuc 0) (pos 0)) halves chair_outline chair_children 0 [])) 0 → ⊥
  -- one part, where the factor asks for two
  pub half_missing : SubdivisionFits gaussian (book_of gaussian (plain_book (two (pos 2) (pos 0)) (two (pos 1) (pos 0)) (part 0 true ∷ []) chair_outline chair_children 0 [])) 0 → ⊥
  -- two parts of opposite senses, which a plain label's subdivision does not have
  pub not_a_palindrome : SubdivisionFits gaussian (book_of gaussian (plain_book (two (pos 2) (pos 0)) (two (pos 1) (pos 0)) (part 0 true ∷ part 0 false ∷ []) chair_outline chair_children 0 [])) 0 → ⊥
  -- two steps, which do not end where they began; a square, once round with the clock
  pub left_open : OutlineCloses gaussian (book_of gaussian (plain_book (two (pos 2) (pos 0)) (two (pos 1) (pos 0)) halves (step 0 true 0 ∷ step 0 true 1 ∷ []) chair_children 0 [])) 0 → ⊥
  pub clockwise : OutlineCloses gaussian (book_of gaussian (plain_book (two (pos 2) (pos 0)) (two (pos 1) (pos 0)) halves (step 0 true 0 ∷ step 0 true 3 ∷ step 0 true 2 ∷ step 0 true 1 ∷ []) chair_children 0 [])) 0 → ⊥
  -- no children
  pub unbalanced : ChildrenBalance gaussian (book_of gaussian (plain_book (two (pos 2) (pos 0)) (two (pos 1) (pos 0)) halves chair_outline [] 0 [])) 0 → ⊥
