-- Powers of ζ, and directions modulo n.
use Rattle.std.proofs.Common.{◌≡◌, ℕ, zero, suc, ◌+◌, ◌-◌, ◌*◌, ◌/◌, ◌%◌, ◌<◌, ◌≤◌, [], ◌∷◌, sym, refl, ap, ◌∙◌, ap₂, mod-lt, mod-eq_of_lt, arith}
use native.Mathlib.Nat.{mod-mod, mod-add-div', add-mul-mod_self_right, add-mod-mod, mod-add-mod}
use Rattle.exact.specs.Cyclotomic.{Cyclotomic, CyclotomicLaws, power, half}
use Rattle.exact.proofs.Solver.{v, unit, times, minus, solve, one_mul}
use Rattle.exact.proofs.Powers as powers
use Rattle.exact.proofs.Powers.{ring_of}
use Rattle.chains.specs.Edges.{plus_turn, minus_turn}

-- equal up to whole turns
same_direction : (n a b x y : ℕ) → a + x * n ≡ b + y * n → a % n ≡ b % n
same_direction n a b x y h = sym (add-mul-mod_self_right a x n) ∙ ap (λ z. z % n) h ∙ add-mul-mod_self_right b y n

module _ (E : Cyclotomic) (L : CyclotomicLaws E) where
  pub conj_one : E.conj E.one ≡ E.one
  conj_one = sym (L.ring.mul_one _) ∙ ap (E.mul (E.conj E.one)) (sym (L.conj_conj E.one))
      ∙ sym (L.conj_mul _ _) ∙ ap E.conj (one_mul (ring_of E L) _) ∙ L.conj_conj _

  -- 0 is its own conjugate
  pub conj_zero : E.conj E.zero ≡ E.zero
  conj_zero = sym (L.ring.add-zero _) ∙ ap (E.add (E.conj E.zero)) (sym (L.conj_conj E.zero))
      ∙ sym (L.conj_add _ _) ∙ ap E.conj (L.ring.add_comm _ _ ∙ L.ring.add-zero _) ∙ L.conj_conj _

  pub n_halves : half E + half E ≡ E.n
  n_halves = omega (arith, L.even)

  pub power_opposed : (j : ℕ) → power E (j + half E) ≡ E.neg (power E j)
  power_opposed j = powers.power_add E L j (half E) ∙ ap (E.mul (power E j)) L.half_turn ∙ solve (ring_of E L) (power E j ∷ []) (times (v 0) (minus unit)) (minus (v 0)) tt

  pub power_plus : (k j : ℕ) → power E (plus_turn E k j) ≡ E.mul (power E k) (power E j)
  unfolding plus_turn
  power_plus k j = powers.power_rest E L (k + j) ∙ powers.power_add E L k j

  pub power_conj : (k : ℕ) → E.mul (power E k) (E.conj (power E k)) ≡ E.one
  power_conj zero = one_mul (ring_of E L) _ ∙ conj_one
  power_conj (suc k) = ap (E.mul _) (L.conj_mul _ _)
      ∙ solve (ring_of E L) (E.zeta ∷ power E k ∷ E.conj E.zeta ∷ E.conj (power E k) ∷ []) (times (times (v 0) (v 1)) (times (v 2) (v 3))) (times (times (v 0) (v 2)) (times (v 1) (v 3))) tt
      ∙ ap₂ E.mul L.unit_length (power_conj k) ∙ one_mul (ring_of E L) _

  pub positive : 0 < E.n
  positive = omega (arith, L.few)

  minus_back : (k j : ℕ) → E.mul (power E (minus_turn E k j)) (power E j) ≡ power E k
  unfolding minus_turn
  minus_back k j = ap₂ E.mul (powers.power_rest E L (k + (E.n - j % E.n))) (sym (powers.power_rest E L j)) ∙ sym (powers.power_add E L _ _)
      ∙ ap (power E) e ∙ powers.power_add E L k E.n ∙ ap (E.mul _) (powers.full_turn E L) ∙ L.ring.mul_one _
    where
      e : k + (E.n - j % E.n) + j % E.n ≡ k + E.n
      e = omega (arith, mod-lt j positive)

  pub power_minus : (k j : ℕ) → power E (minus_turn E k j) ≡ E.mul (power E k) (E.conj (power E j))
  power_minus k j = sym (L.ring.mul_one _) ∙ ap (E.mul _) (sym (power_conj j)) ∙ sym (L.ring.mul_assoc _ _ _) ∙ ap₂ E.mul (minus_back k j) refl

  -- what each sum and difference is, up to whole turns
  record Near (a b : ℕ) : Type 0 where
    up : ℕ
    down : ℕ
    near : a + up * E.n ≡ b + down * E.n

  plus_near : (k j : ℕ) → Near (plus_turn E k j) (k + j)
  unfolding plus_turn
  plus_near k j = record { up = (k + j) / E.n; down = 0; near = omega (arith, mod-add-div' (k + j) E.n) }

  minus_near : (k j : ℕ) → Near (minus_turn E k j + j) k
  unfolding minus_turn
  minus_near k j = record { up = (k + (E.n - j % E.n)) / E.n; down = suc (j / E.n); near = omega (arith, mod-add-div' (k + (E.n - j % E.n)) E.n, mod-add-div' j E.n, mod-lt j positive) }

  mod_near : (j : ℕ) → Near (j % E.n) j
  mod_near j = record { up = j / E.n; down = 0; near = omega (arith, mod-add-div' j E.n) }

  pub plus_mod : (k j : ℕ) → plus_turn E k j % E.n ≡ plus_turn E k j
  unfolding plus_turn
  plus_mod k j = mod-mod _ _

  pub minus_mod : (k j : ℕ) → minus_turn E k j % E.n ≡ minus_turn E k j
  unfolding minus_turn
  minus_mod k j = mod-mod _ _

  meets : (a b : ℕ) → a % E.n ≡ a → b % E.n ≡ b → (x y : ℕ) → a + x * E.n ≡ b + y * E.n → a ≡ b
  meets a b p q x y h = sym p ∙ same_direction E.n a b x y h ∙ q

  pub plus_of_mod : (k j : ℕ) → plus_turn E k (j % E.n) ≡ plus_turn E k j % E.n
  unfolding plus_turn
  plus_of_mod k j = add-mod-mod k j E.n ∙ sym (mod-mod _ _)

  pub minus_of_mod : (k j : ℕ) → minus_turn E k (j % E.n) ≡ minus_turn E k j % E.n
  unfolding minus_turn
  minus_of_mod k j = ap (λ z. (k + (E.n - z)) % E.n) (mod-mod j E.n) ∙ sym (mod-mod _ _)

  pub plus_opposed : (k j : ℕ) → plus_turn E k ((j + half E) % E.n) ≡ (plus_turn E k j + half E) % E.n
  plus_opposed k j =
      let s = plus_near k ((j + half E) % E.n) in
      let m = mod_near (j + half E) in
      let b = mod_near (plus_turn E k j + half E) in
      let u = plus_near k j in
      meets _ _ (plus_mod _ _) (mod-mod _ _) (s.up + m.up + b.down + u.down) (s.down + m.down + b.up + u.up) (omega (arith, s.near, m.near, b.near, u.near))

  pub minus_opposed : (k j : ℕ) → minus_turn E k ((j + half E) % E.n) ≡ (minus_turn E k j + half E) % E.n
  minus_opposed k j =
      let s = minus_near k ((j + half E) % E.n) in
      let m = mod_near (j + half E) in
      let b = mod_near (minus_turn E k j + half E) in
      let u = minus_near k j in
      meets _ _ (minus_mod _ _) (mod-mod _ _) (s.up + m.down + b.down + u.down + 1) (s.down + m.up + b.up + u.up) (omega (arith, s.near, m.near, b.near, u.near, n_halves))

  pub plus_plus : (k j i : ℕ) → plus_turn E k (plus_turn E j i) ≡ plus_turn E (plus_turn E k j) i
  plus_plus k j i =
      let s = plus_near k (plus_turn E j i) in
      let m = plus_near j i in
      let b = plus_near (plus_turn E k j) i in
      let u = plus_near k j in
      meets _ _ (plus_mod _ _) (plus_mod _ _) (s.up + m.up + b.down + u.down) (s.down + m.down + b.up + u.up) (omega (arith, s.near, m.near, b.near, u.near))

  pub plus_minus : (k j i : ℕ) → plus_turn E k (minus_turn E j i) ≡ minus_turn E (plus_turn E k j) i
  plus_minus k j i =
      let s = plus_near k (minus_turn E j i) in
      let m = minus_near j i in
      let b = minus_near (plus_turn E k j) i in
      let u = plus_near k j in
      meets _ _ (plus_mod _ _) (minus_mod _ _) (s.up + m.up + b.down + u.down) (s.down + m.down + b.up + u.up) (omega (arith, s.near, m.near, b.near, u.near))

  pub minus_plus : (k j i : ℕ) → minus_turn E k (plus_turn E j i) ≡ minus_turn E (minus_turn E k j) i
  minus_plus k j i =
      let s = minus_near k (plus_turn E j i) in
      let m = plus_near j i in
      let b = minus_near (minus_turn E k j) i in
      let u = minus_near k j in
      meets _ _ (minus_mod _ _) (minus_mod _ _) (s.up + m.down + b.down + u.down) (s.down + m.up + b.up + u.up) (omega (arith, s.near, m.near, b.near, u.near))

  pub minus_minus : (k j i : ℕ) → minus_turn E k (minus_turn E j i) ≡ plus_turn E (minus_turn E k j) i
  minus_minus k j i =
      let s = minus_near k (minus_turn E j i) in
      let m = minus_near j i in
      let b = plus_near (minus_turn E k j) i in
      let u = minus_near k j in
      meets _ _ (minus_mod _ _) (plus_mod _ _) (s.up + m.down + b.down + u.down) (s.down + m.up + b.up + u.up) (omega (arith, s.near, m.near, b.near, u.near))

  pub twice_opposed : (j : ℕ) → ((j + half E) % E.n + half E) % E.n ≡ j % E.n
  twice_opposed j = mod-add-mod (j + half E) E.n (half E) ∙ same_direction E.n _ _ 0 1 (omega (arith, n_halves))

  -- just one of a direction and its opposite is below half a turn
  pub low_then_high : (j : ℕ) → j % E.n < half E → half E ≤ (j + half E) % E.n
  low_then_high j h = rw e (omega arith)
    where
      e : (j + half E) % E.n ≡ j % E.n + half E
      e = sym (mod-add-mod j E.n (half E)) ∙ mod-eq_of_lt (omega (arith, n_halves))

  pub high_then_low : (j : ℕ) → half E ≤ j % E.n → (j + half E) % E.n < half E
  high_then_low j h = rw e (omega (arith, n_halves, mod-lt j positive))
    where
      e : (j + half E) % E.n ≡ j % E.n - half E
      e = sym (mod-add-mod j E.n (half E))
          ∙ same_direction E.n (j % E.n + half E) (j % E.n - half E) 0 1 (omega (arith, n_halves))
          ∙ mod-eq_of_lt (omega (arith, n_halves, mod-lt j positive))
