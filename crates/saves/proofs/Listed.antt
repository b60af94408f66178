-- The coefficients of plain rows.
use Rattle.std.proofs.Common.{◌≡◌, ℕ, List, ℤ, pos, get_or, sym, ap, ◌∙◌, subst, arith, w32, w64, SFits, FitsSigned, to_z, of_z}
use Rattle.std.proofs.lemmas.Int.{ints, to_z-of_z}
use Rattle.exact.specs.Cyclotomic.{Cyclotomic}
use Rattle.exact.specs.Sizes.{Between}
use Rattle.rings.specs.Plane.{plane_bound, OnPlane}
use Rattle.rings.proofs.Lists.{within_at}

-- a row's coefficients are those of the element that it is read as
pub as_listed : (E : Cyclotomic) {P : Type 0} (listed : P → List ℤ) (row : E.Elem → P) → ((x : E.Elem) → listed (row x) ≡ E.list x) → ((p : P) → row (E.of (listed p)) ≡ p) → (p : P) → listed p ≡ E.list (E.of (listed p))
as_listed E listed row h k p = sym (ap listed (k p)) ∙ h (E.of (listed p))

-- a position's coefficient fits 64 bits
fits_bits : (z : ℤ) → Between plane_bound z → SFits w64 z
fits_bits z h = omega (arith, ints)

carried : (x z : ℤ) → x ≡ z → Between plane_bound z → to_z w64 (of_z w64 x) ≡ z
carried x z e h = ap (λ y. to_z w64 (of_z w64 y)) e ∙ to_z-of_z w64 z (fits_bits z h)

-- coefficient k of a row that is on the plane
coefficient_of : (E : Cyclotomic) (x : E.Elem) (cs : List ℤ) (k : ℕ) (c : ℤ) → OnPlane E x → cs ≡ E.list x → c ≡ get_or cs k (pos 0) → to_z w64 (of_z w64 c) ≡ get_or (E.list x) k (pos 0)
coefficient_of E x cs k c h e f = carried c (get_or (E.list x) k (pos 0)) (f ∙ ap (λ l. get_or l k (pos 0)) e) (within_at plane_bound (E.list x) h k)

pub coefficient_fits : (E : Cyclotomic) (x : E.Elem) (cs : List ℤ) (k : ℕ) (c : ℤ) → OnPlane E x → cs ≡ E.list x → c ≡ get_or cs k (pos 0) → FitsSigned w32 (to_z w64 (of_z w64 c))
coefficient_fits E x cs k c h e f = subst (FitsSigned w32) (sym (coefficient_of E x cs k c h e f)) (small (get_or (E.list x) k (pos 0)) (within_at plane_bound (E.list x) h k))
  where
    small : (z : ℤ) → Between plane_bound z → FitsSigned w32 z
    small z b = omega (arith, ints)

-- the same cast to 32 bits
pub coefficient_cast : (E : Cyclotomic) (x : E.Elem) (cs : List ℤ) (k : ℕ) (c : ℤ) → OnPlane E x → cs ≡ E.list x → c ≡ get_or cs k (pos 0) → to_z w32 (of_z w32 (to_z w64 (of_z w64 c))) ≡ get_or (E.list x) k (pos 0)
coefficient_cast E x cs k c h e f = to_z-of_z w32 (to_z w64 (of_z w64 c)) (coefficient_fits E x cs k c h e f) ∙ coefficient_of E x cs k c h e f
