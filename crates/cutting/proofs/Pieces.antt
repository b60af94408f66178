-- The text of a piece, as its row gives it.
use Rattle.std.proofs.Common.{◌≡◌, ℕ, Bool, true, false, List, ◌∷◌, length, ℤ, decimal, refl, sym, ap, ◌∙◌}
use Rattle.std.specs.Int.{from_bool}
use Rattle.exact.specs.Cyclotomic.{Cyclotomic, CyclotomicLaws}
use Rattle.jobs.specs.Spelled.{mark}
use Rattle.lines.specs.Spelling.{word}

pub mark_text : (b : Bool) → 32 ∷ decimal (from_bool b) ≡ word (mark b)
mark_text true = refl
mark_text false = refl

module _ (E : Cyclotomic) {C : Type 0} (listed : C → List ℤ) (row : E.Elem → C) (listed_row : (x : E.Elem) → listed (row x) ≡ E.list x) (row_listed : (p : C) → row (E.of (listed p)) ≡ p) where
  -- a plain row is the list of its element
  pub listed_again : (p : C) → E.list (E.of (listed p)) ≡ listed p
  listed_again p = sym (listed_row (E.of (listed p))) ∙ ap listed (row_listed p)

  -- so it is of d coefficients
  pub length_listed : CyclotomicLaws E → (p : C) (D : ℕ) → D ≡ E.d → length (listed p) ≡ D
  length_listed L p D e = ap length (sym (listed_again p)) ∙ L.list_length (E.of (listed p)) ∙ sym e
