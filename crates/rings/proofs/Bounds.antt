-- Sums and products of coefficients, as the machine works them out.
use Rattle.std.proofs.Common.{◌≡◌, ℕ, ◌*◌, Bool, List, get_or, ℤ, pos, ◌+ℤ◌, ◌*ℤ◌, neg_ℤ, ◌≤ℤ◌, Result, sym, ap, ◌∙◌, subst, ap₂, arith, lit≤, w64, SFits, to_z, of_z}
use lib.Signed.{lt_z}
use borrow.Author.Differences.{ints, fits_out, same_out, Apart-out, lt_T, le_T, lt_not, le_not, lt-true, lt-false, le-true, le-false, true-lt, false-lt, true-le, false-le, not_negative_out, lt_out, le_out, fits_in, same_in, lt_in, le_in, below_in, at_most_in, not_negative_in, true_is_lt, false_is_lt, true_is_le, false_is_le, sum_is_lem, neg_is, abs_is, mag_is, back_is, small_is, read_fits, bits_is}
use Rattle.std.proofs.lemmas.Int.{to_z-of_z}
use Rattle.exact.specs.Cyclotomic.{Cyclotomic}
use Rattle.exact.proofs.Surds.{square_above}
use Rattle.exact.proofs.Sizes.{product_between, sweep_size, within_wider}
use Rattle.exact.proofs.Coefficients.{quad_same}
use Rattle.exact.proofs.TenfoldLaws.{by_crosses}
use Rattle.exact.specs.Sizes.{Between, Within, SizeLaws}
use Rattle.exact.specs.Sweeps.{sweep}
use Rattle.rings.specs.Plane.{OnPlane, plane_bound, height_bound, sweep_bound, products}
use Rattle.rings.proofs.Lists.{within_at}
use Rattle.rings.specs.Answers.{Exactly, HeightOf}
use Rattle.rings.specs.declared.fault.RingFault.{RingFault}

-- signed numbers for `omega`, with products left whole
pub ruleset linear = (fits_out, same_out, Apart-out, lt_T, le_T, lt_not, le_not, lt-true, lt-false, le-true, le-false, true-lt, false-lt, true-le, false-le, not_negative_out, lt_out, le_out, fits_in, same_in, lt_in, le_in, below_in, at_most_in, not_negative_in, true_is_lt, false_is_lt, true_is_le, false_is_le, sum_is_lem, neg_is, abs_is, mag_is, back_is, small_is, read_fits, bits_is)

-- ---- answers, at an equal element
pub recast : {S : Type 0} {E : Cyclotomic} {value : S → E.Elem} {r : Result S RingFault} {x y : E.Elem} → Exactly E value r x → x ≡ y → Exactly E value r y
recast {S} {E} {value} {r} h e = subst (Exactly E value r) e h

pub height_recast : {E : Cyclotomic} {r : Result ℤ RingFault} {x y : E.Elem} → HeightOf E r x → x ≡ y → HeightOf E r y
height_recast {E} {r} h e = subst (HeightOf E r) e h

-- ---- what a signed number is after it went through its bits
abbrev pub back : ℤ → ℤ
back z = to_z w64 (of_z w64 z)

near_fits : (a : ℤ) → Between plane_bound a → SFits w64 a
near_fits a h = omega (arith, ints)

pub some_fits : (a : ℤ) → Between (products 8) a → SFits w64 a
some_fits a h = omega (arith, ints)

-- ---- products
-- what `times` answers, by its arguments' values
pub times_is : (a b : ℤ) {t : ℤ} → (Between plane_bound (back a) → Between plane_bound (back b) → t ≡ back a *ℤ back b) → Between plane_bound a → Between plane_bound b → t ≡ a *ℤ b
times_is a b e p q =
    let ea = to_z-of_z w64 a (near_fits a p) in
    let eb = to_z-of_z w64 b (near_fits b q) in
    e (subst (Between plane_bound) (sym ea) p) (subst (Between plane_bound) (sym eb) q) ∙ ap₂ ◌*ℤ◌ ea eb

pub times_small : (a b : ℤ) {t : ℤ} → (Between plane_bound (back a) → Between plane_bound (back b) → Between (products 1) t) → Between plane_bound a → Between plane_bound b → Between (products 1) t
times_small a b e p q = e (subst (Between plane_bound) (sym (to_z-of_z w64 a (near_fits a p))) p) (subst (Between plane_bound) (sym (to_z-of_z w64 b (near_fits b q))) q)

back_product : (a b : ℤ) → Between plane_bound a → Between plane_bound b → back a *ℤ back b ≡ a *ℤ b
back_product a b p q = ap₂ ◌*ℤ◌ (to_z-of_z w64 a (near_fits a p)) (to_z-of_z w64 b (near_fits b q))

pub cross_is : (a b c d : ℤ) {t : ℤ} → t ≡ back a *ℤ back d +ℤ neg_ℤ (back b *ℤ back c) → Between plane_bound a → Between plane_bound b → Between plane_bound c → Between plane_bound d → t ≡ a *ℤ d +ℤ neg_ℤ (b *ℤ c)
cross_is a b c d e p q r s = e ∙ ap₂ (λ x y. x +ℤ neg_ℤ y) (back_product a d p s) (back_product b c q r)

-- the same of coefficients of two positions: the product, and how large it is
pub product_at : (l m : List ℤ) → Within plane_bound l → Within plane_bound m → (i j : ℕ) (t : ℤ) →
    (Between plane_bound (back (get_or l i (pos 0))) → Between plane_bound (back (get_or m j (pos 0))) → t ≡ back (get_or l i (pos 0)) *ℤ back (get_or m j (pos 0))) →
    (Between plane_bound (back (get_or l i (pos 0))) → Between plane_bound (back (get_or m j (pos 0))) → Between (products 1) t) →
    (t ≡ get_or l i (pos 0) *ℤ get_or m j (pos 0)) × Between (products 1) t
product_at l m p q i j t e s =
    let a = within_at plane_bound l p i in
    let b = within_at plane_bound m q j in
    (times_is _ _ e a b, times_small _ _ s a b)

-- ---- sums of few products
two_fit : (a : ℤ) → Between (products 2) a → SFits w64 a
two_fit a h = omega (arith, ints)

back_add : (a b : ℤ) → Between (products 2) a → Between (products 2) b → back (back a +ℤ back b) ≡ a +ℤ b
back_add a b p q = ap back (ap₂ ◌+ℤ◌ (to_z-of_z w64 a (two_fit a p)) (to_z-of_z w64 b (two_fit b q))) ∙ to_z-of_z w64 (a +ℤ b) (omega (arith, ints))

pub add3 : (a b c : ℤ) → Between (products 2) a → Between (products 2) b → Between (products 2) c →
    (back (back (back a +ℤ back b) +ℤ back c) ≡ a +ℤ b +ℤ c) × Between (products 6) (back (back (back a +ℤ back b) +ℤ back c))
add3 a b c p q r =
    let m : Between (products 6) (a +ℤ b +ℤ c) = omega (arith, ints) in
    let e = ap back (ap₂ ◌+ℤ◌ (back_add a b p q) (to_z-of_z w64 c (two_fit c r))) ∙ to_z-of_z w64 (a +ℤ b +ℤ c) (omega (arith, ints)) in
    (e, subst (Between (products 6)) (sym e) m)

pub add4 : (a b c d : ℤ) → Between (products 1) a → Between (products 1) b → Between (products 1) c → Between (products 1) d →
    (back (back (back a +ℤ back b) +ℤ back (back c +ℤ back d)) ≡ a +ℤ b +ℤ (c +ℤ d)) × Between (products 4) (back (back (back a +ℤ back b) +ℤ back (back c +ℤ back d)))
add4 a b c d p q r s =
    let m : Between (products 4) (a +ℤ b +ℤ (c +ℤ d)) = omega (arith, ints) in
    let e = ap back (ap₂ ◌+ℤ◌ (back_add a b (twice a p) (twice b q)) (back_add c d (twice c r) (twice d s))) ∙ to_z-of_z w64 (a +ℤ b +ℤ (c +ℤ d)) (omega (arith, ints)) in
    (e, subst (Between (products 4)) (sym e) m)
  where
    twice : (z : ℤ) → Between (products 1) z → Between (products 2) z
    twice z h = (omega (arith, ints), omega (arith, ints))

-- the coefficients of a sweep, by its two sums of cross products
pub across : (a b : ℤ) → Between (products 6) a → Between (products 6) b →
    record { c0 = back (pos 0 +ℤ neg_ℤ (back a)); c1 = back (back a +ℤ back a); c2 = back (back b +ℤ neg_ℤ (back a)); c3 = back (back b +ℤ back a) } ≡ by_crosses ◌+ℤ◌ ◌*ℤ◌ neg_ℤ a b
across a b p q = quad_same _ _ (omega (arith, ints)) (omega (arith, ints)) (omega (arith, ints)) (omega (arith, ints))

-- ---- squares
pub square_is : (u : ℤ) → SFits w64 u → back u *ℤ back u ≡ u *ℤ u
square_is u f = ap (λ z. z *ℤ z) (to_z-of_z w64 u f)

pub square_high : (u : ℤ) (k : ℕ) → Between k u → (u *ℤ u) ≤ℤ pos (k * k)
square_high u k h = (product_between k k u u h h).1

pub square_fits : (u : ℤ) → Between (4 * height_bound) u → SFits w64 (u *ℤ u)
square_fits u h = by (u *ℤ u) (square_above u) (square_high u (4 * height_bound) h)
  where
    by : (z : ℤ) → pos 0 ≤ℤ z → z ≤ℤ pos (4 * height_bound * (4 * height_bound)) → SFits w64 z
    by z p q = omega (arith, ints)

-- the test of `surd`, over the numbers themselves
pub tested : (u b : ℤ) {x y : ℤ} {t : Bool} → SFits w64 u → SFits w64 b → x ≡ back b *ℤ back b → y ≡ back u *ℤ back u → pos 0 ≤ℤ x → x ≤ℤ pos (4 * (height_bound * height_bound)) → SFits w64 y → lt_z (back (pos 5 *ℤ back x)) (back y) ≡ t → lt_z (pos 5 *ℤ (b *ℤ b)) (u *ℤ u) ≡ t
tested u b {x} {y} f g ex ey l h k e =
    let fx : SFits w64 x = omega (arith, ints) in
    let five : back (pos 5 *ℤ back x) ≡ pos 5 *ℤ (b *ℤ b) = ap (λ z. back (pos 5 *ℤ z)) (to_z-of_z w64 x fx) ∙ to_z-of_z w64 (pos 5 *ℤ x) (scaled x l h) ∙ ap (λ z. pos 5 *ℤ z) (ex ∙ square_is b g) in
    sym (ap₂ lt_z five (to_z-of_z w64 y k ∙ ey ∙ square_is u f)) ∙ e
  where
    scaled : (x : ℤ) → pos 0 ≤ℤ x → x ≤ℤ pos (4 * (height_bound * height_bound)) → SFits w64 (pos 5 *ℤ x)
    scaled x l h = omega (arith, ints)

pub back_between : {s : ℕ} {z : ℤ} → SFits w64 z → Between s (back z) → Between s z
back_between {s} {z} f h = subst (Between s) (to_z-of_z w64 z f) h

pub between_back : {s : ℕ} {z : ℤ} → SFits w64 z → Between s z → Between s (back z)
between_back {s} {z} f h = subst (Between s) (sym (to_z-of_z w64 z f)) h

-- ---- sweeps between positions of a ring with the size laws
pub sweeps_are_small : (E : Cyclotomic) → SizeLaws E → (p q : E.Elem) → OnPlane E p → OnPlane E q → Within sweep_bound (E.list (sweep E p q))
sweeps_are_small E Z p q h g = within_wider (32 * (plane_bound * plane_bound)) sweep_bound (E.list (sweep E p q)) (lit≤ tt) (sweep_size E Z plane_bound p q h g)
