-- Answers of tests, and the exits of a `?` on the way.
use Rattle.std.proofs.Common.{◌≡◌, Bool, true, false, not, eqb, ℤ, pos, IsErrAnd, Ok, Err, Decides, Result, sym, refl, ap, ◌∙◌, true≢false, w8, SFits, to_z, of_z}
use mathlib.Core.Bool.{false≢true}
use Rattle.std.proofs.lemmas.Int.{to_z-of_z}
use Rattle.std.proofs.lemmas.Bool.{eqb-true, eq-eqb}
use Rattle.exact.specs.Cyclotomic.{Cyclotomic, CyclotomicLaws, power, same_element}
use Rattle.exact.proofs.Equality.{same_element_is, same_element_self}
use Rattle.rings.specs.declared.fault.RingFault.{RingFault}
use Rattle.rings.specs.declared.fault.RingFault.TheVariants.{OffPlane}
use Rattle.edges.specs.Answers.{Worked}
use Rattle.book.specs.Points.{Tested, Tells}

-- the ring's refusal, handed on
pub broke_off : {A : Type 0} (r : Result A RingFault) (P : A → Type 0) (K K' : Type 0) (f : RingFault) → IsErrAnd r (λ y. y ≡ f) → (K' → K) → (f ≡ OffPlane) × (K → ⊥) → Worked r P K'
broke_off (Ok x) P K K' f h k n = absurd h
broke_off (Err y) P K K' f h k n = record { is = (h ∙ n.0, λ z. n.1 (k z)) }

pub test_broke_off : (r : Result Bool RingFault) (H K K' : Type 0) (f : RingFault) → IsErrAnd r (λ y. y ≡ f) → (K' → K) → (f ≡ OffPlane) × (K → ⊥) → Tested r H K'
test_broke_off (Ok x) H K K' f h k n = absurd h
test_broke_off (Err y) H K K' f h k n = record { is = (h ∙ n.0, λ z. n.1 (k z)) }

-- what decides the last part of a condition decides the condition, where the rest of it holds
tells : (b : Bool) (D H K : Type 0) → (D → H) → (H → D) → K → Decides b D → Tells b H K
tells true D H K f h k d = (f (d.0 refl), k)
tells false D H K f h k d = λ x. false≢true (d.1 (h x))

pub decided : (b : Bool) (D H K : Type 0) → (D → H) → (H → D) → K → Decides b D → Tested (Ok b) H K
decided b D H K f h k d = record { is = tells b D H K f h k d }

pub ended : (r : Result Bool RingFault) (D H K K' : Type 0) → (D → H) → (H → D) → (K → K') → (K' → K) → Worked r (λ b. Decides b D) K → Tested r H K'
ended (Ok b) D H K K' f h k l w = record { is = tells b D H K' f h (k w.is.1) w.is.0 }
ended (Err y) D H K K' f h k l w = record { is = (w.is.0, λ z. w.is.1 (l z)) }

-- equal positions, and a height of 1, as the code tests them
module _ (E : Cyclotomic) (L : CyclotomicLaws E) where
  pub equal_decided : (a b x y : E.Elem) (t : Bool) → t ≡ same_element E a b → a ≡ x → b ≡ y → Decides t (x ≡ y)
  equal_decided a b x y t h p q = (λ e. sym p ∙ same_element_is E L a b (sym h ∙ e) ∙ q, λ e. h ∙ ap (same_element E a) (q ∙ sym e ∙ sym p) ∙ same_element_self E L a)

  -- ζ to the power 1
  pub first_power : (z : E.Elem) → E.mul (power E 1) z ≡ E.mul E.zeta z
  first_power z = ap (λ y. E.mul y z) (L.ring.mul_one E.zeta)

-- what `!=` says of `==`
pub differ : (b : Bool) → true ≡ not b → b ≡ false
differ true e = absurd (true≢false e)
differ false e = refl

pub agree : (b : Bool) → false ≡ not b → b ≡ true
agree true e = refl
agree false e = absurd (false≢true e)

pub one_decided : (h x : ℤ) → SFits w8 h → h ≡ x → Decides (eqb (of_z w8 h) 1) (x ≡ pos 1)
one_decided h x f e = (λ t. sym e ∙ sym (to_z-of_z w8 h f) ∙ ap (to_z w8) (eqb-true _ _ t), λ t. eq-eqb _ _ (ap (of_z w8) (e ∙ t)))

-- what a test's answer says
pub yes : {H K : Type 0} (b : Bool) → b ≡ true → Tested (Ok b) H K → K × H
yes true e t = (t.is.1, t.is.0)
yes false e t = absurd (false≢true e)

pub no : {H K : Type 0} (b : Bool) → b ≡ false → Tested (Ok b) H K → H → ⊥
no true e t = absurd (true≢false e)
no false e t = t.is
