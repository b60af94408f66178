-- What an operation of a ring answers.
use Rattle.std.specs.Prelude.{◌≡◌, ℤ, Result, MatchResult}
use Rattle.exact.specs.Cyclotomic.{Cyclotomic}
use Rattle.exact.specs.Sizes.{Within}
use Rattle.rings.specs.Plane.{OnPlane, height_bound}
use Rattle.rings.specs.declared.fault.RingFault.{RingFault}
use Rattle.rings.specs.declared.fault.RingFault.TheVariants.{OffPlane}

-- r is x itself where x lies on the plane, and the refusal 'off the plane' where it does not
pub record Exactly {S : Type 0} (E : Cyclotomic) (value : S → E.Elem) (r : Result S RingFault) (x : E.Elem) : Type 0 where
  pub is : MatchResult r (λ z. (value z ≡ x) × OnPlane E x) (λ f. (f ≡ OffPlane) × (OnPlane E x → ⊥))

-- r is the height of x where no coefficient is too large for it, and the refusal 'off the plane' where one is
pub record HeightOf (E : Cyclotomic) (r : Result ℤ RingFault) (x : E.Elem) : Type 0 where
  pub is : MatchResult r (λ h. (h ≡ E.height x) × Within height_bound (E.list x)) (λ f. (f ≡ OffPlane) × (Within height_bound (E.list x) → ⊥))
