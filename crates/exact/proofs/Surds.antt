-- The sign of u + b√k: it turns with u + b√k, and sums of positive numbers are positive.
use Rattle.std.proofs.Common.{◌≡◌, ℕ, ◌*◌, ◌<◌, ◌≤◌, Bool, true, false, cond, ◌⊎◌, [], ◌∷◌, ℤ, pos, negsuc, ◌+ℤ◌, ◌*ℤ◌, neg_ℤ, nat_abs, ◌≤ℤ◌, ◌<ℤ◌, sym, refl, ap, ◌∙◌, ap₂, inl, inr, ⊎_elim, true≢false, mul-le-mul, arith}
use lib.IntN.{+ℤ_comm}
use lib.Signed.{lt_z}
use borrow.Author.Differences.{ints}
use Rattle.std.proofs.lemmas.Bool.{cases_lt}
use Rattle.exact.specs.Signs.{sign, surd_sign}
use Rattle.exact.proofs.Solver.{v, nil, plus, times, minus, solve}
use Rattle.exact.proofs.Integers.{integers}

-- ---- signs of whole numbers
pub sign_neg : (z : ℤ) → sign (neg_ℤ z) ≡ neg_ℤ (sign z)
sign_neg (pos ℕ.zero) = refl
sign_neg (pos (ℕ.suc k)) = refl
sign_neg (negsuc k) = refl

pub sign_above : (z : ℤ) → pos 0 <ℤ z → sign z ≡ pos 1
sign_above (pos ℕ.zero) h = absurd (omega (arith, ints))
sign_above (pos (ℕ.suc k)) h = refl
sign_above (negsuc k) h = absurd (omega (arith, ints))

pub above_sign : (z : ℤ) → sign z ≡ pos 1 → pos 0 <ℤ z
above_sign (pos ℕ.zero) h = absurd (omega (arith, ints))
above_sign (pos (ℕ.suc k)) h = omega (arith, ints)
above_sign (negsuc k) h = absurd (omega (arith, ints))

pub sign_add : (a b : ℤ) → sign a ≡ pos 1 → sign b ≡ pos 1 → sign (a +ℤ b) ≡ pos 1
sign_add a b p q = sign_above (a +ℤ b) (sum a b (above_sign a p) (above_sign b q))
  where
    sum : (a b : ℤ) → pos 0 <ℤ a → pos 0 <ℤ b → pos 0 <ℤ (a +ℤ b)
    sum a b p q = omega (arith, ints)

three_ways : (z : ℤ) → (pos 0 <ℤ z) ⊎ ((pos 0 <ℤ neg_ℤ z) ⊎ (z ≡ pos 0))
three_ways (pos ℕ.zero) = inr (inr refl)
three_ways (pos (ℕ.suc k)) = inl (omega (arith, ints))
three_ways (negsuc k) = inr (inl (omega (arith, ints)))

-- ---- squares and products by their sizes
pub square_abs : (z : ℤ) → z *ℤ z ≡ pos (nat_abs z * nat_abs z)
square_abs (pos k) = refl
square_abs (negsuc k) = refl

pub product_abs : (a b : ℤ) → (a *ℤ b) ≤ℤ pos (nat_abs a * nat_abs b)
product_abs (pos a) (pos b) = omega (arith, ints)
product_abs (pos a) (negsuc b) = omega (arith, ints)
product_abs (negsuc a) (pos b) = omega (arith, ints)
product_abs (negsuc a) (negsuc b) = omega (arith, ints)

pub square_above : (z : ℤ) → pos 0 ≤ℤ (z *ℤ z)
square_above z = by (z *ℤ z) (nat_abs z * nat_abs z) (square_abs z)
  where
    by : (x : ℤ) (k : ℕ) → x ≡ pos k → pos 0 ≤ℤ x
    by x k e = omega (arith, ints)

square_root : (z : ℤ) → z *ℤ z ≡ pos 0 → z ≡ pos 0
square_root (pos ℕ.zero) e = refl
square_root (pos (ℕ.suc k)) e = absurd (omega (arith, ints))
square_root (negsuc k) e = absurd (omega (arith, ints))

above_zero : (z : ℤ) → pos 0 <ℤ z → z ≡ pos (nat_abs z)
above_zero (pos k) h = refl
above_zero (negsuc k) h = absurd (omega (arith, ints))

neg_square : (z : ℤ) → neg_ℤ z *ℤ neg_ℤ z ≡ z *ℤ z
neg_square z = solve integers (z ∷ []) (times (minus (v 0)) (minus (v 0))) (times (v 0) (v 0)) tt

square_sum : (a b : ℤ) → (a +ℤ b) *ℤ (a +ℤ b) ≡ a *ℤ a +ℤ b *ℤ b +ℤ (a *ℤ b +ℤ a *ℤ b)
square_sum a b =
    solve integers (a ∷ (b ∷ [])) (times (plus (v 0) (v 1)) (plus (v 0) (v 1)))
    (plus (plus (times (v 0) (v 0)) (times (v 1) (v 1))) (plus (times (v 0) (v 1)) (times (v 0) (v 1)))) tt

-- orders of signed numbers, as facts of tests and sums
lt-true : (x y : ℤ) → lt_z x y ≡ true → x <ℤ y
lt-true x y e = omega (arith, ints)

true-lt : (x y : ℤ) → x <ℤ y → lt_z x y ≡ true
true-lt x y e = sym (omega (arith, ints))

lt-false : (x y : ℤ) → lt_z x y ≡ false → y ≤ℤ x
lt-false x y e = omega (arith, ints)

false-lt : (x y : ℤ) → y ≤ℤ x → lt_z x y ≡ false
false-lt x y e = sym (omega (arith, ints))

add_above : (x y : ℤ) → pos 0 <ℤ x → pos 0 <ℤ y → pos 0 <ℤ (x +ℤ y)
add_above x y p q = omega (arith, ints)

-- ---- √k
module _ (k : ℕ) where
  abbrev scaled : ℤ → ℤ
  scaled s = pos k *ℤ s

  -- u outweighs b√k
  abbrev wide : ℤ → ℤ → Bool
  wide u b = lt_z (scaled (b *ℤ b)) (u *ℤ u)

  wide_neg : (u b : ℤ) → wide (neg_ℤ u) (neg_ℤ b) ≡ wide u b
  wide_neg u b = ap₂ (λ s t. lt_z (scaled s) t) (neg_square b) (neg_square u)

  pub surd_neg : (u b : ℤ) → surd_sign k (neg_ℤ u) (neg_ℤ b) ≡ neg_ℤ (surd_sign k u b)
  surd_neg u b = rw (wide_neg u b) (by (wide u b))
    where
      by : (t : Bool) → cond t (sign (neg_ℤ u)) (sign (neg_ℤ b)) ≡ neg_ℤ (cond t (sign u) (sign b))
      by true = sign_neg u
      by false = sign_neg b

  -- k·c² < a² and k·y² < x² give k·c·y < a·x: else the product of the two would fail
  cross_wide : (a c x y : ℕ) → k * (c * c) < a * a → k * (y * y) < x * x → k * (c * y) < a * x
  cross_wide a c x y p q =
      ⊎_elim (λ l. l) (λ l. absurd (omega (arith, mul-le-mul l l, mul-le-mul p q))) (cases_lt (k * (c * y)) (a * x))

  cross_narrow : (a c x y : ℕ) → a * a ≤ k * (c * c) → x * x ≤ k * (y * y) → a * x ≤ k * (c * y)
  cross_narrow a c x y p q =
      ⊎_elim (λ l. absurd (omega (arith, mul-le-mul l l, mul-le-mul p q))) (λ l. l) (cases_lt (k * (c * y)) (a * x))

  scaled_nat : (s : ℤ) (m : ℕ) → s ≡ pos m → scaled s ≡ pos (k * m)
  scaled_nat s m e = ap scaled e

  scaled_low : (s : ℤ) (m : ℕ) → s ≤ℤ pos m → scaled s ≤ℤ pos (k * m)
  scaled_low (pos n) m h = let l : n ≤ m = omega (arith, ints) in let g : k * n ≤ k * m = mul-le-mul (omega arith) l in omega (arith, ints)
  scaled_low (negsuc n) m h = omega (arith, ints)

  nat_lt : (x y : ℤ) (l m : ℕ) → x ≡ pos l → y ≡ pos m → x <ℤ y → l < m
  nat_lt x y l m e f h = omega (arith, ints)

  nat_le : (x y : ℤ) (l m : ℕ) → x ≡ pos l → y ≡ pos m → y ≤ℤ x → m ≤ l
  nat_le x y l m e f h = omega (arith, ints)

  lt_nat : (x y : ℤ) (l m : ℕ) → x ≤ℤ pos l → y ≡ pos m → l < m → x <ℤ y
  lt_nat x y l m e f h = omega (arith, ints)

  le_nat : (x y : ℤ) (l m : ℕ) → x ≡ pos l → y ≤ℤ pos m → m ≤ l → y ≤ℤ x
  le_nat x y l m e f h = omega (arith, ints)

  wide_product : (u b t c : ℤ) → pos 0 <ℤ u → pos 0 <ℤ t → scaled (b *ℤ b) <ℤ (u *ℤ u) → scaled (c *ℤ c) <ℤ (t *ℤ t) → scaled (b *ℤ c) <ℤ (u *ℤ t)
  wide_product u b t c p q h g =
      let e : u *ℤ t ≡ pos (nat_abs u * nat_abs t) = ap₂ ◌*ℤ◌ (above_zero u p) (above_zero t q) in
      let m = cross_wide (nat_abs u) (nat_abs b) (nat_abs t) (nat_abs c)
      (nat_lt _ _ _ _ (scaled_nat (b *ℤ b) _ (square_abs b)) (square_abs u) h) (nat_lt _ _ _ _ (scaled_nat (c *ℤ c) _ (square_abs c)) (square_abs t) g) in
      lt_nat (scaled (b *ℤ c)) (u *ℤ t) _ _ (scaled_low (b *ℤ c) _ (product_abs b c)) e m

  narrow_product : (u b t c : ℤ) → pos 0 <ℤ b → pos 0 <ℤ c → (u *ℤ u) ≤ℤ scaled (b *ℤ b) → (t *ℤ t) ≤ℤ scaled (c *ℤ c) → (u *ℤ t) ≤ℤ scaled (b *ℤ c)
  narrow_product u b t c p q h g =
      let e : b *ℤ c ≡ pos (nat_abs b * nat_abs c) = ap₂ ◌*ℤ◌ (above_zero b p) (above_zero c q) in
      let m = cross_narrow (nat_abs u) (nat_abs b) (nat_abs t) (nat_abs c)
      (nat_le _ _ _ _ (scaled_nat (b *ℤ b) _ (square_abs b)) (square_abs u) h) (nat_le _ _ _ _ (scaled_nat (c *ℤ c) _ (square_abs c)) (square_abs t) g) in
      le_nat (scaled (b *ℤ c)) (u *ℤ t) _ _ (scaled_nat (b *ℤ c) _ e) (product_abs u t) m

  scaled_sum : (a b : ℤ) → scaled ((a +ℤ b) *ℤ (a +ℤ b)) ≡ scaled (a *ℤ a) +ℤ scaled (b *ℤ b) +ℤ (scaled (a *ℤ b) +ℤ scaled (a *ℤ b))
  scaled_sum a b =
      solve integers (a ∷ (b ∷ (pos k ∷ []))) (times (v 2) (times (plus (v 0) (v 1)) (plus (v 0) (v 1))))
      (plus (plus (times (v 2) (times (v 0) (v 0))) (times (v 2) (times (v 1) (v 1)))) (plus (times (v 2) (times (v 0) (v 1))) (times (v 2) (times (v 0) (v 1))))) tt

  wide_sum : (u b t c : ℤ) → pos 0 <ℤ u → pos 0 <ℤ t → scaled (b *ℤ b) <ℤ (u *ℤ u) → scaled (c *ℤ c) <ℤ (t *ℤ t) → scaled ((b +ℤ c) *ℤ (b +ℤ c)) <ℤ ((u +ℤ t) *ℤ (u +ℤ t))
  wide_sum u b t c p q h g = lin _ _ _ _ _ _ _ _ (scaled_sum b c) (square_sum u t) h g (wide_product u b t c p q h g)
    where
      lin : (B C M S U V N R : ℤ) → S ≡ B +ℤ C +ℤ (M +ℤ M) → R ≡ U +ℤ V +ℤ (N +ℤ N) → B <ℤ U → C <ℤ V → M <ℤ N → S <ℤ R
      lin B C M S U V N R e f h k m = omega (arith, ints)

  narrow_sum : (u b t c : ℤ) → pos 0 <ℤ b → pos 0 <ℤ c → (u *ℤ u) ≤ℤ scaled (b *ℤ b) → (t *ℤ t) ≤ℤ scaled (c *ℤ c) → ((u +ℤ t) *ℤ (u +ℤ t)) ≤ℤ scaled ((b +ℤ c) *ℤ (b +ℤ c))
  narrow_sum u b t c p q h g = lin _ _ _ _ _ _ _ _ (scaled_sum b c) (square_sum u t) h g (narrow_product u b t c p q h g)
    where
      lin : (B C M S U V N R : ℤ) → S ≡ B +ℤ C +ℤ (M +ℤ M) → R ≡ U +ℤ V +ℤ (N +ℤ N) → U ≤ℤ B → V ≤ℤ C → N ≤ℤ M → R ≤ℤ S
      lin B C M S U V N R e f h k m = omega (arith, ints)

  -- ---- u + b√k is above 0, in one of two ways
  abbrev Above : Bool → ℤ → ℤ → Type 0
  Above true u b = (wide u b ≡ true) × (pos 0 <ℤ u)
  Above false u b = (wide u b ≡ false) × (pos 0 <ℤ b)

  above_sum : (w : Bool) (u b t c : ℤ) → Above w u b → Above w t c → Above w (u +ℤ t) (b +ℤ c)
  above_sum true u b t c h g =
      let m = wide_sum u b t c h.1 g.1 (lt-true _ _ h.0) (lt-true _ _ g.0) in
      (true-lt _ _ m, add_above u t h.1 g.1)
  above_sum false u b t c h g =
      let m = narrow_sum u b t c h.1 g.1 (lt-false _ _ h.0) (lt-false _ _ g.0) in
      (false-lt _ _ m, add_above b c h.1 g.1)

  above_surd : (u b : ℤ) (w : Bool) → Above w u b → surd_sign k u b ≡ pos 1
  above_surd u b true h = ap (λ t. cond t (sign u) (sign b)) h.0 ∙ sign_above u h.1
  above_surd u b false h = ap (λ t. cond t (sign u) (sign b)) h.0 ∙ sign_above b h.1

  surd_above : (u b : ℤ) → surd_sign k u b ≡ pos 1 → Above (wide u b) u b
  surd_above u b e = by (wide u b) refl e
    where
      by : (w : Bool) → wide u b ≡ w → cond w (sign u) (sign b) ≡ pos 1 → Above w u b
      by true h e = (h, above_sign u e)
      by false h e = (h, above_sign b e)

  abbrev Zero : ℤ → ℤ → Type 0
  Zero u b = (u ≡ pos 0) × (b ≡ pos 0)

  scaled_above : (b : ℤ) → pos 0 ≤ℤ scaled (b *ℤ b)
  scaled_above b = by (scaled (b *ℤ b)) (k * (nat_abs b * nat_abs b)) (scaled_nat (b *ℤ b) _ (square_abs b))
    where
      by : (x : ℤ) (m : ℕ) → x ≡ pos m → pos 0 ≤ℤ x
      by x m e = omega (arith, ints)

  scaled_none : (b : ℤ) → b ≡ pos 0 → scaled (b *ℤ b) ≡ pos 0
  scaled_none b e = ap (λ y. scaled (y *ℤ y)) e ∙ solve integers (pos k ∷ []) (times (v 0) nil) nil tt

  classify : (u b : ℤ) → Above (wide u b) u b ⊎ (Above (wide u b) (neg_ℤ u) (neg_ℤ b) ⊎ Zero u b)
  classify u b = by (wide u b) refl
    where
      none_wide : (x y : ℤ) → pos 0 ≤ℤ y → lt_z y x ≡ true → x ≡ pos 0 → ⊥
      none_wide x y p e f = omega (arith, ints)

      none_narrow : (x y : ℤ) → pos 0 ≤ℤ x → lt_z y x ≡ false → y ≡ pos 0 → x ≡ pos 0
      none_narrow x y p e f = omega (arith, ints)

      square_none : (z : ℤ) → z ≡ pos 0 → z *ℤ z ≡ pos 0
      square_none z e = ap (λ y. y *ℤ y) e

      by_u : wide u b ≡ true → (pos 0 <ℤ u) ⊎ ((pos 0 <ℤ neg_ℤ u) ⊎ (u ≡ pos 0)) → Above true u b ⊎ (Above true (neg_ℤ u) (neg_ℤ b) ⊎ Zero u b)
      by_u h (inl p) = inl (h, p)
      by_u h (inr (inl p)) = inr (inl (wide_neg u b ∙ h, p))
      by_u h (inr (inr e)) = absurd (none_wide (u *ℤ u) (scaled (b *ℤ b)) (scaled_above b) h (square_none u e))

      by_b : wide u b ≡ false → (pos 0 <ℤ b) ⊎ ((pos 0 <ℤ neg_ℤ b) ⊎ (b ≡ pos 0)) → Above false u b ⊎ (Above false (neg_ℤ u) (neg_ℤ b) ⊎ Zero u b)
      by_b h (inl p) = inl (h, p)
      by_b h (inr (inl p)) = inr (inl (wide_neg u b ∙ h, p))
      by_b h (inr (inr e)) = inr (inr (square_root u (none_narrow (u *ℤ u) (scaled (b *ℤ b)) (square_above u) h (scaled_none b e)), e))

      by : (w : Bool) → wide u b ≡ w → Above w u b ⊎ (Above w (neg_ℤ u) (neg_ℤ b) ⊎ Zero u b)
      by true h = by_u h (three_ways u)
      by false h = by_b h (three_ways b)

  -- the rest of a sum, once one part is taken off
  rest_left : (u t : ℤ) → neg_ℤ (u +ℤ t) +ℤ u ≡ neg_ℤ t
  rest_left u t = omega (arith, ints)

  rest_right : (u t : ℤ) → neg_ℤ (u +ℤ t) +ℤ t ≡ neg_ℤ u
  rest_right u t = omega (arith, ints)

  opposite : (u t : ℤ) → u +ℤ t ≡ pos 0 → t ≡ neg_ℤ u
  opposite u t e = omega (arith, ints)

  -- one above 0 in each way: were the sum not above 0, taking one part off it would put the other on the wrong side
  mixed : (u b t c : ℤ) → Above true u b → Above false t c → surd_sign k (u +ℤ t) (b +ℤ c) ≡ pos 1
  mixed u b t c h g = by (wide (u +ℤ t) (b +ℤ c)) (classify (u +ℤ t) (b +ℤ c))
    where
      by : (w : Bool) → Above w (u +ℤ t) (b +ℤ c) ⊎ (Above w (neg_ℤ (u +ℤ t)) (neg_ℤ (b +ℤ c)) ⊎ Zero (u +ℤ t) (b +ℤ c)) → surd_sign k (u +ℤ t) (b +ℤ c) ≡ pos 1
      by w (inl p) = above_surd (u +ℤ t) (b +ℤ c) w p
      by true (inr (inl p)) =
          let s = (above_sum true _ _ u b p h).0 in
          let e = ap₂ wide (rest_left u t) (rest_left b c) in
          absurd (true≢false (sym s ∙ e ∙ wide_neg t c ∙ g.0))
      by false (inr (inl p)) =
          let s = (above_sum false _ _ t c p g).0 in
          let e = ap₂ wide (rest_right u t) (rest_right b c) in
          absurd (true≢false (sym h.0 ∙ sym (wide_neg u b) ∙ sym e ∙ s))
      by w (inr (inr z)) = absurd (true≢false (sym h.0 ∙ sym (wide_neg u b) ∙ sym (ap₂ wide (opposite u t z.0) (opposite b c z.1)) ∙ g.0))

  pub surd_add : (u b t c : ℤ) → surd_sign k u b ≡ pos 1 → surd_sign k t c ≡ pos 1 → surd_sign k (u +ℤ t) (b +ℤ c) ≡ pos 1
  surd_add u b t c e f = by (wide u b) (wide t c) (surd_above u b e) (surd_above t c f)
    where
      by : (w x : Bool) → Above w u b → Above x t c → surd_sign k (u +ℤ t) (b +ℤ c) ≡ pos 1
      by true true h g = above_surd _ _ true (above_sum true u b t c h g)
      by true false h g = mixed u b t c h g
      by false true h g = ap₂ (surd_sign k) (+ℤ_comm u t) (+ℤ_comm b c) ∙ mixed t c u b g h
      by false false h g = above_surd _ _ false (above_sum false u b t c h g)
