-- The list of 1 is 1, 0, 0, ..
use Rattle.std.proofs.Common.{◌≡◌, ℕ, zero, suc, List, [], ◌∷◌, length, ℤ, pos, sym, refl, ap, ◌∙◌, subst, arith}
use Rattle.std.proofs.lemmas.Int.{ints}
use Rattle.exact.specs.Cyclotomic.{Cyclotomic, CyclotomicLaws, combination}
use Rattle.exact.specs.Sizes.{Between, Within}
use Rattle.exact.proofs.Powers.{ring_of}
use Rattle.exact.proofs.Solver as solver

zeros : ℕ → List ℤ
zeros zero = []
zeros (suc k) = pos 0 ∷ zeros k

zeros_length : (k : ℕ) → length (zeros k) ≡ k
unfolding zeros
zeros_length zero = refl
zeros_length (suc k) = ap suc (zeros_length k)

zeros_within : (k : ℕ) → Within 1 (zeros k)
unfolding zeros
zeros_within zero = tt
zeros_within (suc k) = (near, zeros_within k)
  where
    near : Between 1 (pos 0)
    near = omega (arith, ints)

module _ (E : Cyclotomic) (L : CyclotomicLaws E) where
  no_sum : (k : ℕ) → combination E (zeros k) ≡ E.zero
  unfolding zeros
  no_sum zero = refl
  no_sum (suc k) =
      ap (λ z. E.add E.zero (E.mul E.zeta z)) (no_sum k)
      ∙ solver.solve (ring_of E L) (E.zeta ∷ []) (solver.plus solver.nil (solver.times (solver.v 0) solver.nil)) solver.nil tt

  one_listed : (k : ℕ) → E.d ≡ suc k → Within 1 (E.list E.one)
  one_listed k h =
      let l = pos 1 ∷ zeros k in
      let n : length l ≡ E.d = ap suc (zeros_length k) ∙ sym h in
      let e = L.list_of l n in
      let is : combination E l ≡ E.one = ap (λ z. E.add (E.add E.one E.zero) (E.mul E.zeta z)) (no_sum k)
      ∙ solver.solve (ring_of E L) (E.zeta ∷ []) (solver.plus (solver.plus solver.unit solver.nil) (solver.times (solver.v 0) solver.nil)) solver.unit tt in
      let o : E.of l ≡ E.one = sym (L.stands_for (E.of l)) ∙ ap (combination E) e ∙ is in
      subst (Within 1) (sym e ∙ ap E.list o) (first, zeros_within k)
    where
      first : Between 1 (pos 1)
      first = omega (arith, ints)

  pub one_within : Within 1 (E.list E.one)
  one_within = go E.d refl
    where
      none : (l : List ℤ) → length l ≡ 0 → Within 1 l
      none [] h = tt
      none (a ∷ l) h = absurd (omega arith)

      go : (d : ℕ) → E.d ≡ d → Within 1 (E.list E.one)
      go zero h = none (E.list E.one) (L.list_length E.one ∙ h)
      go (suc k) h = one_listed k h
