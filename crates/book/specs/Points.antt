-- The points of the check, in their order, and what a refusal says of them.
use Rattle.std.specs.Prelude.{◌≡◌, ℕ, Bool, true, false, List, [], ◌∷◌, ◌++◌, map, length, Result, MatchResult}
use Rattle.std.specs.List.{range_with_len, AllByRecursion}
use Rattle.exact.specs.Cyclotomic.{Cyclotomic}
use Rattle.exact.specs.JobNumbers.{Part}
use Rattle.exact.specs.Sizes.{Within}
use Rattle.rings.specs.Plane.{OnPlane, height_bound}
use Rattle.rings.specs.declared.fault.RingFault.{RingFault}
use Rattle.rings.specs.declared.fault.RingFault.TheVariants.{OffPlane}
use Rattle.chains.specs.Books.{Book, label_at, tile_at}
use Rattle.chains.specs.Inflation.{inflate}
use Rattle.chains.specs.Placements.{outline, outlines}
use Rattle.chains.specs.Accepted.{lengths, total_sweep, FactorAboveOne, LengthAboveZero, SubdivisionFits, OutlineCloses, ChildrenBalance, Accepted}
use Rattle.edges.specs.Views.{edge_view}
use Rattle.edges.specs.Working.{KeptOutline, KeptPlacedOutline, KeptInflated, KeptForms}
use Rattle.book.specs.Differences.{UnbalancedAt}
use Rattle.book.specs.declared.fault.BookFault.{BookFault}
use Rattle.book.specs.declared.fault.BookFault.TheVariants.{Factor, Length, Subdivision, Outline, Unbalanced, Ring, Memory}

-- what is looked at: the factor, a label's length, its subdivision, a tile's outline, its children
pub data Point : Type 0 where
  the_factor : Point
  length_of : ℕ → Point
  subdivision_of : ℕ → Point
  outline_of : ℕ → Point
  children_of : ℕ → Point

module _ (E : Cyclotomic) (B : Book E) where
  -- the factor first, then each thing over all labels or tiles before the next
  abbrev pub length_points : List Point
  length_points = map length_of (range_with_len 0 (length B.labels))

  abbrev pub subdivision_points : List Point
  subdivision_points = map subdivision_of (range_with_len 0 (length B.labels))

  abbrev pub outline_points : List Point
  outline_points = map outline_of (range_with_len 0 (length B.tiles))

  abbrev pub children_points : List Point
  children_points = map children_of (range_with_len 0 (length B.tiles))

  unfoldable pub points : List Point
  points = (the_factor ∷ []) ++ (length_points ++ (subdivision_points ++ (outline_points ++ children_points)))

  -- what has to hold there
  abbrev pub Holds : Point → Type 0
  Holds the_factor = FactorAboveOne E B
  Holds (length_of e) = LengthAboveZero E B e
  Holds (subdivision_of e) = SubdivisionFits E B e
  Holds (outline_of t) = OutlineCloses E B t
  Holds (children_of t) = ChildrenBalance E B t

  -- ---- the values that are worked out there, and that they are on the plane
  pub record KeptFactor : Type 0 where
    pub conjugate : OnPlane E (E.conj B.factor)
    pub less_one : OnPlane E (E.add B.factor (E.neg E.one))
    pub raised : OnPlane E (E.mul E.zeta (E.add B.factor (E.neg E.one)))

  pub record KeptLength (e : ℕ) : Type 0 where
    pub conjugate : OnPlane E (E.conj (label_at B e).length)
    pub raised : OnPlane E (E.mul E.zeta (label_at B e).length)

  -- lengths added up, from the last part on
  unfoldable pub KeptLengths : List Part → Type 0
  KeptLengths [] = Unit {0}
  KeptLengths (p ∷ ps) = OnPlane E (lengths E B (p ∷ ps)) × KeptLengths ps

  pub record KeptSubdivision (e : ℕ) : Type 0 where
    pub sums : KeptLengths (label_at B e).subdivision
    pub stretched : OnPlane E (E.mul B.factor (label_at B e).length)

  -- the corners, and a total sweep of which a height can be taken
  pub record KeptRound (t : ℕ) : Type 0 where
    pub corners : KeptOutline E B t
    pub area : Within height_bound (E.list (total_sweep E B t))

  -- the children's outlines, the inflated outline, and the canonical forms of both
  pub record KeptBalance (t : ℕ) : Type 0 where
    pub children : AllByRecursion (KeptPlacedOutline E B) (tile_at B t).children
    pub corners : KeptOutline E B t
    pub inflated : KeptInflated E B (outline E B t)
    pub children_forms : KeptForms E B (outlines E B (tile_at B t).children)
    pub inflated_forms : KeptForms E B (inflate E B (outline E B t))

  abbrev pub Kept : Point → Type 0
  Kept the_factor = KeptFactor
  Kept (length_of e) = KeptLength e
  Kept (subdivision_of e) = KeptSubdivision e
  Kept (outline_of t) = KeptRound t
  Kept (children_of t) = KeptBalance t

  -- a point is passed where every value on the way is on the plane and what has to hold holds
  abbrev pub Passed : Point → Type 0
  Passed p = Kept p × Holds p

  -- every value that the check works out is on the plane
  abbrev pub WorkedOnThePlane : Type 0
  WorkedOnThePlane = AllByRecursion Kept points

  module _ {S : Type 0} (value : S → E.Elem) where
    -- what a fault says of the point that it is found at
    abbrev pub Refuses : Point → BookFault S → Type 0
    Refuses p (Factor count) = (p ≡ the_factor) × (count ≡ length B.labels) × (Holds p → ⊥)
    Refuses p (Length e) = (p ≡ length_of e) × (Holds p → ⊥)
    Refuses p (Subdivision e) = (p ≡ subdivision_of e) × (Holds p → ⊥)
    Refuses p (Outline t) = (p ≡ outline_of t) × (Holds p → ⊥)
    Refuses p (Unbalanced t d) = (p ≡ children_of t) × UnbalancedAt E B t (edge_view E value d.edge) d.amount
    Refuses p (Ring f) = (f ≡ OffPlane) × (Kept p → ⊥)
    Refuses p Memory = Unit {0}

    -- f is found at the first of these points that is not passed
    pub record FirstFault (ps : List Point) (f : BookFault S) : Type 0 where
      pub before : List Point
      pub here : Point
      pub after : List Point
      pub found : ps ≡ before ++ here ∷ after
      pub earlier : AllByRecursion Passed before
      pub refuses : Refuses here f

    -- r says that all these points are passed, or what is wrong at the first that is not
    pub record Judged {A : Type 0} (r : Result A (BookFault S)) (ps : List Point) : Type 0 where
      pub is : MatchResult r (λ _. AllByRecursion Passed ps) (FirstFault ps)

    -- a book that is refused is not accepted, or some value leaves the plane; want of memory says nothing of it
    abbrev pub Rejects : BookFault S → Type 0
    Rejects Memory = Unit {0}
    Rejects (Factor count) = Accepted E B → ⊥
    Rejects (Length e) = Accepted E B → ⊥
    Rejects (Subdivision e) = Accepted E B → ⊥
    Rejects (Outline t) = Accepted E B → ⊥
    Rejects (Unbalanced t d) = Accepted E B → ⊥
    Rejects (Ring f) = WorkedOnThePlane → ⊥

-- ---- the test of one point, before it is a fault
abbrev pub Tells : Bool → Type 0 → Type 0 → Type 0
Tells true H K = H × K
Tells false H K = H → ⊥

-- yes where H holds and every value on the way is on the plane, as K says; no where H does not hold; the ring's refusal where K does not
pub record Tested (r : Result Bool RingFault) (H K : Type 0) : Type 0 where
  pub is : MatchResult r (λ b. Tells b H K) (λ f. (f ≡ OffPlane) × (K → ⊥))
