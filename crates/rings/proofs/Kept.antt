-- Rows and what they stand for.
use Rattle.std.proofs.Common.{◌≡◌, ℕ, ◌≤◌, length, pos, sym, subst, ap₂, arith}
use mathlib.Core.HLevel.{is_prop→PathP}
use native.Mathlib.Nat.{ℕ_set}
use Rattle.std.specs.Ordering.{int_eq}
use Rattle.std.specs.Cmp.Lexicographic.{pointwise}
use Rattle.exact.specs.Cyclotomic.{Cyclotomic, CyclotomicLaws, same_element}
use Rattle.exact.specs.Residues.{residue}
use Rattle.exact.specs.Sizes.{Within}
use Rattle.exact.specs.Sweeps.{row_total}
use Rattle.exact.proofs.Totals.{row_ends}
use Rattle.rings.specs.Plane.{OnPlane, plane_bound}
use Rattle.rings.specs.declared.rows.Row.{Row}

pub row_same : {D : ℕ} (x y : Row D) → x.at ≡ y.at → x ≡ y
row_same {D} x y p = λ i. record { at = p i; full = is_prop→PathP (λ i. length (p i) ≡ D) (λ i. ℕ_set (length (p i)) D) x.full y.full i }

pub row_ended : {D : ℕ} (x : Row D) (k : ℕ) → D ≤ k → row_total x.at k ≡ residue (pos 0)
row_ended x k h = row_ends x.at k (omega (arith, x.full))

-- the derived test of rows is the test of elements
pub rows_decide : (E : Cyclotomic) → CyclotomicLaws E → (x y : Row E.d) → pointwise int_eq x.at y.at ≡ same_element E (E.of x.at) (E.of y.at)
rows_decide E L x y = sym (ap₂ (pointwise int_eq) (L.list_of x.at x.full) (L.list_of y.at y.full))

-- a row within the plane's bound stands for an element on the plane
pub row_kept : (E : Cyclotomic) → CyclotomicLaws E → (x : Row E.d) → Within plane_bound x.at → OnPlane E (E.of x.at)
row_kept E L x h = subst (Within plane_bound) (sym (L.list_of x.at x.full)) h
