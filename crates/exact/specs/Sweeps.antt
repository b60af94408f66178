-- Sweeps: what the segment from p to q sweeps over as seen from 0, as 2i times twice the area of the triangle 0, p, q.
use Rattle.std.specs.Prelude.{ℕ, List, [], ◌∷◌, ℤ, pos, slice_index_or}
use Rattle.exact.specs.Cyclotomic.{Cyclotomic}
use Rattle.exact.specs.Residues.{Total, residue}

-- conj(p)·q - p·conj(q)
abbrev pub sweep : (E : Cyclotomic) → E.Elem → E.Elem → E.Elem
sweep E p q = E.add (E.mul (E.conj p) q) (E.neg (E.mul p (E.conj q)))

-- the sweep once round from p through the given points, ended at the last of them
abbrev pub sweep_through : (E : Cyclotomic) → E.Elem → List E.Elem → E.Elem
sweep_through E p [] = E.zero
sweep_through E p (q ∷ qs) = E.add (sweep E p q) (sweep_through E q qs)

-- the total with the listed coefficients, each taken modulo 2^64; beyond the last they are 0
abbrev pub row_total : List ℤ → Total
row_total l = λ k. residue (slice_index_or l k (pos 0))

abbrev pub total_of : (E : Cyclotomic) → E.Elem → Total
total_of E z = row_total (E.list z)

-- the first coefficients of a total, from number k on, as signed numbers
abbrev pub coefficients_from : ℕ → ℕ → Total → List ℤ
coefficients_from k ℕ.zero t = []
coefficients_from k (ℕ.suc m) t = (t k).at ∷ coefficients_from (ℕ.suc k) m t

-- the element that a total's first d coefficients are, read as signed numbers
abbrev pub read_total : (E : Cyclotomic) → Total → E.Elem
read_total E t = E.of (coefficients_from 0 E.d t)
