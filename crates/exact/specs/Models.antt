-- The two named rings, by their formulas: Z[i], where n = 4, and Z[ζ10].
use Rattle.std.specs.Prelude.{List, [], ◌∷◌, ℤ, pos, negsuc, ◌+ℤ◌, ◌*ℤ◌, neg_ℤ, slice_index_or}
use Rattle.exact.specs.Cyclotomic.{Cyclotomic}
use Rattle.exact.specs.Signs.{sign, golden_sign}
use Rattle.exact.specs.Quads.{Pair, Quad, pair_add, pair_neg, pair_mul, pair_conj, quad_add, quad_neg, quad_mul, tenfold_conj}

abbrev pub pair_list : Pair ℤ → List ℤ
pair_list x = x.c0 ∷ (x.c1 ∷ [])

-- a list that is too short is filled up by zeros, one that is too long is cut
abbrev pub pair_of : List ℤ → Pair ℤ
pair_of l = record { c0 = slice_index_or l 0 (pos 0); c1 = slice_index_or l 1 (pos 0) }

-- ζ² = -1
abbrev pub gaussian : Cyclotomic
gaussian = record {
  Elem = Pair ℤ;
  n = 4;
  d = 2;
  list = pair_list;
  of = pair_of;
  zero = record { c0 = pos 0; c1 = pos 0 };
  one = record { c0 = pos 1; c1 = pos 0 };
  zeta = record { c0 = pos 0; c1 = pos 1 };
  add = pair_add ◌+ℤ◌ ◌*ℤ◌ neg_ℤ;
  mul = pair_mul ◌+ℤ◌ ◌*ℤ◌ neg_ℤ;
  neg = pair_neg ◌+ℤ◌ ◌*ℤ◌ neg_ℤ;
  conj = pair_conj ◌+ℤ◌ ◌*ℤ◌ neg_ℤ;
  height = λ x. sign x.c1;
}

abbrev pub quad_list : Quad ℤ → List ℤ
quad_list x = x.c0 ∷ (x.c1 ∷ (x.c2 ∷ (x.c3 ∷ [])))

abbrev pub quad_of : List ℤ → Quad ℤ
quad_of l = record { c0 = slice_index_or l 0 (pos 0); c1 = slice_index_or l 1 (pos 0); c2 = slice_index_or l 2 (pos 0); c3 = slice_index_or l 3 (pos 0) }

-- ζ⁴ = ζ³ - ζ² + ζ - 1 in the ring of ten
abbrev pub tenfold_reduction : Quad ℤ
tenfold_reduction = record { c0 = negsuc 0; c1 = pos 1; c2 = negsuc 0; c3 = pos 1 }

-- the height is the sign of c1 + (c2 + c3)φ
abbrev pub tenfold : Cyclotomic
tenfold = record {
  Elem = Quad ℤ;
  n = 10;
  d = 4;
  list = quad_list;
  of = quad_of;
  zero = record { c0 = pos 0; c1 = pos 0; c2 = pos 0; c3 = pos 0 };
  one = record { c0 = pos 1; c1 = pos 0; c2 = pos 0; c3 = pos 0 };
  zeta = record { c0 = pos 0; c1 = pos 1; c2 = pos 0; c3 = pos 0 };
  add = quad_add ◌+ℤ◌ ◌*ℤ◌ neg_ℤ;
  mul = quad_mul ◌+ℤ◌ ◌*ℤ◌ neg_ℤ tenfold_reduction;
  neg = quad_neg ◌+ℤ◌ ◌*ℤ◌ neg_ℤ;
  conj = tenfold_conj ◌+ℤ◌ ◌*ℤ◌ neg_ℤ;
  height = λ x. golden_sign x.c1 (x.c2 +ℤ x.c3);
}
