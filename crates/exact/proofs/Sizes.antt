-- How much the operations of the two named rings enlarge coefficients.
use Rattle.std.proofs.Common.{◌≡◌, ℕ, zero, suc, ◌+◌, ◌*◌, ◌≤◌, List, [], ◌∷◌, ℤ, pos, negsuc, ◌+ℤ◌, ◌*ℤ◌, neg_ℤ, nat_abs, sym, refl, ◌∙◌, subst, mul-le-mul, arith}
use borrow.Author.Differences.{ints}
use Rattle.exact.specs.Cyclotomic.{Cyclotomic, power}
use Rattle.exact.specs.Quads.{Pair, Quad, pair_mul, quad_mul}
use Rattle.exact.specs.Models.{gaussian, tenfold, pair_list, quad_list}
use Rattle.exact.specs.Sizes.{Between, Within, SizeLaws}
use Rattle.exact.specs.Sweeps.{sweep}
use Rattle.exact.proofs.Solver.{v, nil, unit, plus, times, minus}
use Rattle.exact.proofs.Coefficients.{pair_solved, quad_solved, two_at, four_at, X2, X4}
use Rattle.exact.proofs.GaussianLaws.{gaussian_laws}
use Rattle.exact.proofs.TenfoldLaws.{tenfold_laws, at4, mul_by_rows}

-- ---- one coefficient
pub between_abs : (s : ℕ) (a : ℤ) → Between s a → nat_abs a ≤ s
between_abs s (pos n) h = omega (arith, ints)
between_abs s (negsuc n) h = omega (arith, ints)

pub abs_between : (s : ℕ) (a : ℤ) → nat_abs a ≤ s → Between s a
abs_between s (pos n) h = (omega (arith, ints), omega (arith, ints))
abs_between s (negsuc n) h = (omega (arith, ints), omega (arith, ints))

pub product_size : (a b : ℤ) → nat_abs (a *ℤ b) ≡ nat_abs a * nat_abs b
product_size (pos a) (pos b) = refl
product_size (pos a) (negsuc b) = by (a * _)
  where
    by : (k : ℕ) → nat_abs (neg_ℤ (pos k)) ≡ k
    by ℕ.zero = refl
    by (ℕ.suc k) = refl
product_size (negsuc a) (pos b) = by (_ * b)
  where
    by : (k : ℕ) → nat_abs (neg_ℤ (pos k)) ≡ k
    by ℕ.zero = refl
    by (ℕ.suc k) = refl
product_size (negsuc a) (negsuc b) = refl

pub product_between : (s t : ℕ) (a b : ℤ) → Between s a → Between t b → Between (s * t) (a *ℤ b)
product_between s t a b p q = abs_between (s * t) (a *ℤ b) (subst (λ k. k ≤ s * t) (sym (product_size a b)) (mul-le-mul (between_abs s a p) (between_abs t b q)))

pub sum_between : (s t : ℕ) (a b : ℤ) → Between s a → Between t b → Between (s + t) (a +ℤ b)
sum_between s t a b p q = (omega (arith, ints), omega (arith, ints))

pub neg_between : (s : ℕ) (a : ℤ) → Between s a → Between s (neg_ℤ a)
neg_between s a p = (omega (arith, ints), omega (arith, ints))

pub wider : (s t : ℕ) (a : ℤ) → s ≤ t → Between s a → Between t a
wider s t a l p = (omega (arith, ints), omega (arith, ints))

double : (s : ℕ) (a : ℤ) → Between s a → Between (2 * s) a
double s a p = wider s (2 * s) a (omega arith) p

doubled_sum : (s : ℕ) (a b : ℤ) → Between s a → Between s b → Between (2 * s) (a +ℤ b)
doubled_sum s a b p q = let e : 2 * s ≡ s + s = omega arith in subst (λ k. Between k (a +ℤ b)) (sym e) (sum_between s s a b p q)

doubled_difference : (s : ℕ) (a b : ℤ) → Between s a → Between s b → Between (2 * s) (a +ℤ neg_ℤ b)
doubled_difference s a b p q = doubled_sum s a (neg_ℤ b) p (neg_between s b q)

-- ---- Z[i]: a turn by i brings (c0, c1) to (-c1, c0)
abbrev quarter : Pair ℤ → Pair ℤ
quarter x = record { c0 = neg_ℤ x.c1; c1 = x.c0 }

zeta_quarter : (x : Pair ℤ) → gaussian.mul gaussian.zeta x ≡ quarter x
zeta_quarter x = pair_solved (two_at x []) (pair_mul plus times minus (record { c0 = nil; c1 = unit }) X2) (record { c0 = minus (v 1); c1 = v 0 }) (tt, tt)

gaussian_turn : (k s : ℕ) (x : Pair ℤ) → Within s (pair_list x) → Within s (pair_list (gaussian.mul (power gaussian k) x))
gaussian_turn zero s x h = subst (λ z. Within s (pair_list z)) (sym (gaussian_laws.ring.mul_comm gaussian.one x ∙ gaussian_laws.ring.mul_one x)) h
gaussian_turn (suc k) s x h =
    let y = gaussian.mul (power gaussian k) x in
    let g = gaussian_turn k s x h in
    subst (λ z. Within s (pair_list z)) (sym (gaussian_laws.ring.mul_assoc gaussian.zeta (power gaussian k) x ∙ zeta_quarter y))
    (neg_between s y.c1 g.1.0, (g.0, tt))

two_products : (s t : ℕ) (a b c d : ℤ) → Between s a → Between t b → Between s c → Between t d → Between (8 * (s * t)) (a *ℤ b +ℤ c *ℤ d)
two_products s t a b c d p q r u =
    wider (s * t + s * t) (8 * (s * t)) _ (omega arith) (sum_between (s * t) (s * t) _ _ (product_between s t a b p q) (product_between s t c d r u))

two_differ : (s t : ℕ) (a b c d : ℤ) → Between s a → Between t b → Between s c → Between t d → Between (8 * (s * t)) (a *ℤ b +ℤ neg_ℤ (c *ℤ d))
two_differ s t a b c d p q r u =
    wider (s * t + s * t) (8 * (s * t)) _ (omega arith)
    (sum_between (s * t) (s * t) _ _ (product_between s t a b p q) (neg_between (s * t) _ (product_between s t c d r u)))

pub gaussian_sizes : SizeLaws gaussian
gaussian_sizes = record {
  sum_size = λ s t x y p q. (sum_between s t x.c0 y.c0 p.0 q.0, (sum_between s t x.c1 y.c1 p.1.0 q.1.0, tt));
  neg_size = λ s x p. (neg_between s x.c0 p.0, (neg_between s x.c1 p.1.0, tt));
  conj_size = λ s x p. (double s x.c0 p.0, (double s (neg_ℤ x.c1) (neg_between s x.c1 p.1.0), tt));
  turn_size = λ k s x p. let g = gaussian_turn k s x p in (double s _ g.0, (double s _ g.1.0, tt));
  mul_size = λ s t x y p q. (
    two_differ s t x.c0 y.c0 x.c1 y.c1 p.0 q.0 p.1.0 q.1.0,
    (two_products s t x.c0 y.c1 x.c1 y.c0 p.0 q.1.0 p.1.0 q.0, tt),
  );
}

-- ---- Z[ζ10]: a turn by ζ brings (c0, c1, c2, c3) to (-c3, c0 + c3, c1 - c3, c2 + c3)
abbrev tenth : Quad ℤ → Quad ℤ
tenth x = record { c0 = neg_ℤ x.c3; c1 = x.c0 +ℤ x.c3; c2 = x.c1 +ℤ neg_ℤ x.c3; c3 = x.c2 +ℤ x.c3 }

zeta_tenth : (x : Quad ℤ) → tenfold.mul tenfold.zeta x ≡ tenth x
zeta_tenth x = quad_solved (four_at x []) (quad_mul plus times minus (record { c0 = minus unit; c1 = unit; c2 = minus unit; c3 = unit }) (record { c0 = nil; c1 = unit; c2 = nil; c3 = nil }) X4)
    (record { c0 = minus (v 3); c1 = plus (v 0) (v 3); c2 = plus (v 1) (minus (v 3)); c3 = plus (v 2) (v 3) }) (tt, tt, tt, tt)

-- up to sign, the coefficients of all turns of x are these ten combinations of x's
record Round (s : ℕ) (x : Quad ℤ) : Type 0 where
  f0 : Between s x.c0
  f1 : Between s x.c1
  f2 : Between s x.c2
  f3 : Between s x.c3
  f03 : Between s (x.c0 +ℤ x.c3)
  f13 : Between s (x.c1 +ℤ neg_ℤ x.c3)
  f23 : Between s (x.c2 +ℤ x.c3)
  f02 : Between s (x.c0 +ℤ neg_ℤ x.c2)
  f12 : Between s (x.c1 +ℤ x.c2)
  f01 : Between s (x.c0 +ℤ x.c1)

round : (s : ℕ) (x : Quad ℤ) → Within s (quad_list x) → Round (2 * s) x
round s x (p0, (p1, (p2, (p3, u)))) = record {
  f0 = double s _ p0;
  f1 = double s _ p1;
  f2 = double s _ p2;
  f3 = double s _ p3;
  f03 = doubled_sum s _ _ p0 p3;
  f13 = doubled_difference s _ _ p1 p3;
  f23 = doubled_sum s _ _ p2 p3;
  f02 = doubled_difference s _ _ p0 p2;
  f12 = doubled_sum s _ _ p1 p2;
  f01 = doubled_sum s _ _ p0 p1;
}

-- an equal number is as small
as_small : (s : ℕ) {a b : ℤ} → a ≡ b → Between s a → Between s b
as_small s e h = subst (Between s) e h

round_turned : (s : ℕ) (x : Quad ℤ) → Round s x → Round s (tenth x)
round_turned s x r = record {
  f0 = neg_between s _ r.f3;
  f1 = r.f03;
  f2 = r.f13;
  f3 = r.f23;
  f03 = as_small s (e03 x.c2 x.c3) r.f2;
  f13 = as_small s (e13 x.c0 x.c2 x.c3) r.f02;
  f23 = as_small s (e23 x.c1 x.c2 x.c3) r.f12;
  f02 = as_small s (e02 x.c1 x.c3) (neg_between s _ r.f1);
  f12 = as_small s (e12 x.c0 x.c1 x.c3) r.f01;
  f01 = as_small s (e01 x.c0 x.c3) r.f0;
}
  where
    e03 : (b c : ℤ) → b ≡ neg_ℤ c +ℤ (b +ℤ c)
    e03 b c = omega (arith, ints)

    e13 : (a b c : ℤ) → a +ℤ neg_ℤ b ≡ a +ℤ c +ℤ neg_ℤ (b +ℤ c)
    e13 a b c = omega (arith, ints)

    e23 : (a b c : ℤ) → a +ℤ b ≡ a +ℤ neg_ℤ c +ℤ (b +ℤ c)
    e23 a b c = omega (arith, ints)

    e02 : (a c : ℤ) → neg_ℤ a ≡ neg_ℤ c +ℤ neg_ℤ (a +ℤ neg_ℤ c)
    e02 a c = omega (arith, ints)

    e12 : (a b c : ℤ) → a +ℤ b ≡ a +ℤ c +ℤ (b +ℤ neg_ℤ c)
    e12 a b c = omega (arith, ints)

    e01 : (a c : ℤ) → a ≡ neg_ℤ c +ℤ (a +ℤ c)
    e01 a c = omega (arith, ints)

tenfold_turn : (k s : ℕ) (x : Quad ℤ) → Round s x → Round s (tenfold.mul (power tenfold k) x)
tenfold_turn zero s x h = subst (Round s) (sym (tenfold_laws.ring.mul_comm tenfold.one x ∙ tenfold_laws.ring.mul_one x)) h
tenfold_turn (suc k) s x h =
    let y = tenfold.mul (power tenfold k) x in
    subst (Round s) (sym (tenfold_laws.ring.mul_assoc tenfold.zeta (power tenfold k) x ∙ zeta_tenth y)) (round_turned s y (tenfold_turn k s x h))

rounded : (s : ℕ) (x : Quad ℤ) → Round s x → Within s (quad_list x)
rounded s x r = (r.f0, (r.f1, (r.f2, (r.f3, tt))))

module _ (s t : ℕ) (x y : Quad ℤ) (h : Within s (quad_list x)) (g : Within t (quad_list y)) where
  abbrev one : ℕ
  one = s * t

  x0 : Between s x.c0
  x0 = h.0

  x1 : Between s x.c1
  x1 = h.1.0

  x2 : Between s x.c2
  x2 = h.1.1.0

  x3 : Between s x.c3
  x3 = h.1.1.1.0

  y0 : Between t y.c0
  y0 = g.0

  y1 : Between t y.c1
  y1 = g.1.0

  y2 : Between t y.c2
  y2 = g.1.1.0

  y3 : Between t y.c3
  y3 = g.1.1.1.0

  by : (a b : ℤ) → Between s a → Between t b → Between one (a *ℤ b)
  by a b p q = product_between s t a b p q

  fold : Between (one + one + one) (at4 ◌+ℤ◌ ◌*ℤ◌ neg_ℤ x y)
  fold = sum_between (one + one) one _ _ (sum_between one one _ _ (by _ _ x1 y3) (by _ _ x2 y2)) (by _ _ x3 y1)

  tenfold_product : Within (8 * (s * t)) (quad_list (tenfold.mul x y))
  tenfold_product = subst (λ z. Within (8 * (s * t)) (quad_list z)) (mul_by_rows x y) (
    wider (one + (one + one) + (one + one + one)) _ _ (omega arith)
        (sum_between (one + (one + one)) (one + one + one) _ _ (sum_between one (one + one) _ _ (by _ _ x0 y0) (neg_between (one + one) _ (sum_between one one _ _ (by _ _ x2 y3) (by _ _ x3 y2)))) (neg_between (one + one + one) _ fold)),
    (
      wider (one + one + one + (one + one + one)) _ _ (omega arith)
          (sum_between (one + one + one) (one + one + one) _ _ (sum_between (one + one) one _ _ (sum_between one one _ _ (by _ _ x0 y1) (by _ _ x1 y0)) (neg_between one _ (by _ _ x3 y3))) fold),
      (
        wider (one + one + one + (one + one + one)) _ _ (omega arith)
            (sum_between (one + one + one) (one + one + one) _ _ (sum_between (one + one) one _ _ (sum_between one one _ _ (by _ _ x0 y2) (by _ _ x1 y1)) (by _ _ x2 y0)) (neg_between (one + one + one) _ fold)),
        (
          wider (one + one + (one + one) + (one + one + one)) _ _ (omega arith)
              (sum_between (one + one + (one + one)) (one + one + one) _ _ (sum_between (one + one) (one + one) _ _ (sum_between one one _ _ (by _ _ x0 y3) (by _ _ x3 y0)) (sum_between one one _ _ (by _ _ x1 y2) (by _ _ x2 y1))) fold),
          tt,
        ),
      ),
    ),
  )

pub tenfold_sizes : SizeLaws tenfold
tenfold_sizes = record {
  sum_size = λ s t x y p q. (sum_between s t x.c0 y.c0 p.0 q.0, (sum_between s t x.c1 y.c1 p.1.0 q.1.0, (sum_between s t x.c2 y.c2 p.1.1.0 q.1.1.0, (sum_between s t x.c3 y.c3 p.1.1.1.0 q.1.1.1.0, tt))));
  neg_size = λ s x p. (neg_between s x.c0 p.0, (neg_between s x.c1 p.1.0, (neg_between s x.c2 p.1.1.0, (neg_between s x.c3 p.1.1.1.0, tt))));
  conj_size = λ s x p. (doubled_sum s _ _ p.0 p.1.0, (double s _ (neg_between s _ p.1.0), (doubled_difference s _ _ p.1.0 p.1.1.1.0, (doubled_difference s _ _ (neg_between s _ p.1.0) p.1.1.0, tt))));
  turn_size = λ k s x p. rounded (2 * s) _ (tenfold_turn k (2 * s) x (round s x p));
  mul_size = tenfold_product;
}

-- ---- sweeps
pub within_wider : (s t : ℕ) (l : List ℤ) → s ≤ t → Within s l → Within t l
within_wider s t [] h p = tt
within_wider s t (c ∷ cs) h p = (wider s t c h p.0, within_wider s t cs h p.1)

-- conj(p)·q - p·conj(q): two products of coefficients, one of the factors doubled
pub sweep_size : (E : Cyclotomic) → SizeLaws E → (s : ℕ) (p q : E.Elem) → Within s (E.list p) → Within s (E.list q) → Within (32 * (s * s)) (E.list (sweep E p q))
sweep_size E Z s p q h g =
    within_wider (8 * (2 * s * s) + 8 * (s * (2 * s))) (32 * (s * s)) _ (omega arith)
    (Z.sum_size _ _ _ _ (Z.mul_size (2 * s) s _ _ (Z.conj_size s p h) g) (Z.neg_size _ _ (Z.mul_size s (2 * s) _ _ h (Z.conj_size s q g))))
