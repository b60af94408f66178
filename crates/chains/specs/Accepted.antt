-- Which books are accepted. Each condition is of one label or one tile, so that a finite check can decide it.
use Rattle.std.specs.Prelude.{◌≡◌, ℕ, ◌<◌, false, cond, not, List, [], ◌∷◌, ◌++◌, length, pos}
use Rattle.exact.specs.Cyclotomic.{Cyclotomic}
use Rattle.exact.specs.JobNumbers.{Part}
use Rattle.exact.specs.Sweeps.{sweep_through}
use Rattle.chains.specs.Books.{Book, label_at, tile_at}
use Rattle.chains.specs.Edges.{SameNet, corners, walk_end}
use Rattle.chains.specs.Inflation.{inflate}
use Rattle.chains.specs.Placements.{outline, outlines}

module _ (E : Cyclotomic) (B : Book E) where
  -- the lengths of the parts of a subdivision, added up whatever their senses
  unfoldable pub lengths : List Part → E.Elem
  lengths [] = E.zero
  lengths (p ∷ ps) = E.add (label_at B p.label).length (lengths ps)

  -- a subdivision read backwards, with arrowed senses turned
  unfoldable pub turned_part : Part → Part
  turned_part p = record { label = p.label; forward = cond (label_at B p.label).arrowed (not p.forward) p.forward }

  unfoldable pub backwards : List Part → List Part
  backwards [] = []
  backwards (p ∷ ps) = backwards ps ++ (turned_part p ∷ [])

  -- once round a tile's outline: the sum of the sweeps of its steps
  unfoldable pub total_sweep : ℕ → E.Elem
  total_sweep t = sweep_through E E.zero (corners E B (tile_at B t).outline E.zero)

  -- the factor is real and above 1
  pub record FactorAboveOne : Type 0 where
    pub real : E.conj B.factor ≡ B.factor
    pub above_one : E.height (E.mul E.zeta (E.add B.factor (E.neg E.one))) ≡ pos 1

  -- label e's length is real and above 0
  pub record LengthAboveZero (e : ℕ) : Type 0 where
    pub real : E.conj (label_at B e).length ≡ (label_at B e).length
    pub above_zero : E.height (E.mul E.zeta (label_at B e).length) ≡ pos 1

  -- label e's subdivision fills its stretched length, and where e is plain reads the same from both ends
  pub record SubdivisionFits (e : ℕ) : Type 0 where
    pub lengths_add : lengths (label_at B e).subdivision ≡ E.mul B.factor (label_at B e).length
    pub palindrome : (label_at B e).arrowed ≡ false → backwards (label_at B e).subdivision ≡ (label_at B e).subdivision

  -- tile t's outline ends where it began, and its area is positive
  pub record OutlineCloses (t : ℕ) : Type 0 where
    pub ends_at_zero : walk_end E B (tile_at B t).outline E.zero ≡ E.zero
    pub area_above_zero : E.height (total_sweep t) ≡ pos 1

  -- tile t's children have the net counts of its outline inflated once
  abbrev pub ChildrenBalance : ℕ → Type 0
  ChildrenBalance t = SameNet E B (outlines E B (tile_at B t).children) (inflate E B (outline E B t))

  pub record Accepted : Type 0 where
    pub factor_fits : FactorAboveOne
    pub lengths_fit : (e : ℕ) → e < length B.labels → LengthAboveZero e
    pub subdivisions_fit : (e : ℕ) → e < length B.labels → SubdivisionFits e
    pub outlines_close : (t : ℕ) → t < length B.tiles → OutlineCloses t
    pub children_balance : (t : ℕ) → t < length B.tiles → ChildrenBalance t
