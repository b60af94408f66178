-- Rows of coefficients that the solver compares: an identity of rows is one line.
use Rattle.std.proofs.Common.{◌≡◌, T, List, ◌∷◌, ℤ}
use Rattle.exact.specs.Quads.{Pair, Quad}
use Rattle.exact.proofs.Solver.{Ex, v, agree, den, solve}
use Rattle.exact.proofs.Integers.{integers}

pub pair_same : {A : Type 0} (x y : Pair A) → x.c0 ≡ y.c0 → x.c1 ≡ y.c1 → x ≡ y
pair_same x y p q = λ i. record { c0 = p i; c1 = q i }

pub quad_same : {A : Type 0} (x y : Quad A) → x.c0 ≡ y.c0 → x.c1 ≡ y.c1 → x.c2 ≡ y.c2 → x.c3 ≡ y.c3 → x ≡ y
quad_same x y p q r s = λ i. record { c0 = p i; c1 = q i; c2 = r i; c3 = s i }

-- ---- rows of two, the variables numbered from 0
abbrev pub two_at : Pair ℤ → List ℤ → List ℤ
two_at x l = x.c0 ∷ (x.c1 ∷ l)

abbrev pub pair_value : List ℤ → Pair Ex → Pair ℤ
pair_value ρ a = record { c0 = den integers ρ a.c0; c1 = den integers ρ a.c1 }

abbrev pub pair_agrees : Pair Ex → Pair Ex → Type 0
pair_agrees a b = T (agree a.c0 b.c0) × T (agree a.c1 b.c1)

pub pair_solved : (ρ : List ℤ) (a b : Pair Ex) → pair_agrees a b → pair_value ρ a ≡ pair_value ρ b
pair_solved ρ a b p = pair_same _ _ (solve integers ρ a.c0 b.c0 p.0) (solve integers ρ a.c1 b.c1 p.1)

abbrev pub X2 : Pair Ex
X2 = record { c0 = v 0; c1 = v 1 }

abbrev pub Y2 : Pair Ex
Y2 = record { c0 = v 2; c1 = v 3 }

abbrev pub Z2 : Pair Ex
Z2 = record { c0 = v 4; c1 = v 5 }

-- ---- rows of four
abbrev pub four_at : Quad ℤ → List ℤ → List ℤ
four_at x l = x.c0 ∷ (x.c1 ∷ (x.c2 ∷ (x.c3 ∷ l)))

abbrev pub quad_value : List ℤ → Quad Ex → Quad ℤ
quad_value ρ a = record { c0 = den integers ρ a.c0; c1 = den integers ρ a.c1; c2 = den integers ρ a.c2; c3 = den integers ρ a.c3 }

abbrev pub quad_agrees : Quad Ex → Quad Ex → Type 0
quad_agrees a b = T (agree a.c0 b.c0) × T (agree a.c1 b.c1) × T (agree a.c2 b.c2) × T (agree a.c3 b.c3)

pub quad_solved : (ρ : List ℤ) (a b : Quad Ex) → quad_agrees a b → quad_value ρ a ≡ quad_value ρ b
quad_solved ρ a b p =
    quad_same _ _ (solve integers ρ a.c0 b.c0 p.0) (solve integers ρ a.c1 b.c1 p.1)
    (solve integers ρ a.c2 b.c2 p.2) (solve integers ρ a.c3 b.c3 p.3)

abbrev pub X4 : Quad Ex
X4 = record { c0 = v 0; c1 = v 1; c2 = v 2; c3 = v 3 }

abbrev pub Y4 : Quad Ex
Y4 = record { c0 = v 4; c1 = v 5; c2 = v 6; c3 = v 7 }

abbrev pub Z4 : Quad Ex
Z4 = record { c0 = v 8; c1 = v 9; c2 = v 10; c3 = v 11 }

-- a reduction, as variables too
abbrev pub R4 : Quad Ex
R4 = record { c0 = v 12; c1 = v 13; c2 = v 14; c3 = v 15 }
