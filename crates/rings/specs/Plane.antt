-- The plane: the elements whose coefficients all lie from -1,048,576 to 1,048,576.
use Rattle.std.specs.Prelude.{ℕ, ◌*◌, List, [], ◌∷◌, ℤ, pos, slice_index_or}
use Rattle.exact.specs.Cyclotomic.{Cyclotomic}
use Rattle.exact.specs.Sizes.{Within}

-- the largest size of a position's coefficient
abbrev pub plane_bound : ℕ
plane_bound = 1048576

-- the largest size of a coefficient of which a height is taken
abbrev pub height_bound : ℕ
height_bound = 536870912

-- more than the size of any coefficient of a sweep between two positions; a dozen such sweeps do not wrap
abbrev pub sweep_bound : ℕ
sweep_bound = 288230376151711744

-- the largest size of a sum of k products of coefficients of positions
abbrev pub products : ℕ → ℕ
products k = k * (plane_bound * plane_bound)

abbrev pub OnPlane : (E : Cyclotomic) → E.Elem → Type 0
OnPlane E x = Within plane_bound (E.list x)

-- d coefficients from number k on; what the list lacks is 0, and what it has beyond is passed over
abbrev pub fitted_from : ℕ → ℕ → List ℤ → List ℤ
fitted_from k ℕ.zero l = []
fitted_from k (ℕ.suc d) l = slice_index_or l k (pos 0) ∷ fitted_from (ℕ.suc k) d l

-- the element that any list of numbers is read as
abbrev pub read_list : (E : Cyclotomic) → List ℤ → E.Elem
read_list E l = E.of (fitted_from 0 E.d l)
