-- What follows from the laws of an exact ring: powers of ζ repeat after n, and the test of equality decides it.
use Rattle.std.proofs.Common.{◌≡◌, ℕ, zero, suc, ◌+◌, ◌*◌, ◌/◌, ◌%◌, [], ◌∷◌, sym, ap, ◌∙◌, ap₂, div-add-mod', arith}
use Rattle.exact.specs.Cyclotomic.{Cyclotomic, CyclotomicLaws, power, half}
use Rattle.exact.proofs.Solver.{Commutative, v, unit, times, minus, solve}

module _ (E : Cyclotomic) (laws : CyclotomicLaws E) where
  -- the ring, for the solver
  abbrev pub ring_of : Commutative
  ring_of = record { R = E.Elem; zero = E.zero; one = E.one; add = E.add; mul = E.mul; neg = E.neg; laws = laws.ring }

  pub power_add : (a b : ℕ) → power E (a + b) ≡ E.mul (power E a) (power E b)
  power_add zero b = let e : 0 + b ≡ b = omega arith in ap (power E) e ∙ solve ring_of (power E b ∷ []) (v 0) (times unit (v 0)) tt
  power_add (suc a) b =
      let e : suc a + b ≡ suc (a + b) = omega arith in
      ap (power E) e ∙ ap (E.mul E.zeta) (power_add a b) ∙ sym (laws.ring.mul_assoc _ _ _)

  pub full_turn : power E E.n ≡ E.one
  full_turn =
      let e : E.n ≡ half E + half E = omega (arith, laws.even) in
      ap (power E) e ∙ power_add (half E) (half E) ∙ ap₂ E.mul laws.half_turn laws.half_turn
      ∙ solve ring_of [] (times (minus unit) (minus unit)) unit tt

  power_more : (q r : ℕ) → power E (q * E.n + r) ≡ power E r
  power_more zero r = let e : 0 * E.n + r ≡ r = omega arith in ap (power E) e
  power_more (suc q) r =
      let e : suc q * E.n + r ≡ E.n + (q * E.n + r) = omega arith in
      ap (power E) e ∙ power_add E.n (q * E.n + r) ∙ ap₂ E.mul full_turn (power_more q r) ∙ solve ring_of (power E r ∷ []) (times unit (v 0)) (v 0) tt

  -- only the rest by n counts
  pub power_rest : (k : ℕ) → power E (k % E.n) ≡ power E k
  power_rest k = let e : k / E.n * E.n + k % E.n ≡ k = div-add-mod' k E.n in sym (power_more (k / E.n) (k % E.n)) ∙ ap (power E) e

  pub power_at : (k r : ℕ) → k % E.n ≡ r → power E r ≡ power E k
  power_at k r e = ap (power E) (sym e) ∙ power_rest k
