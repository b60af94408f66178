-- What a function that works out some formulas answers.
use Rattle.std.specs.Prelude.{◌≡◌, Result, MatchResult}
use Rattle.rings.specs.declared.fault.RingFault.{RingFault}
use Rattle.rings.specs.declared.fault.RingFault.TheVariants.{OffPlane}
use Rattle.edges.specs.declared.fault.ChainFault.{ChainFault}
use Rattle.edges.specs.declared.fault.ChainFault.TheVariants.{Ring, Memory}

-- r is as P says where every value on the way is on the plane, as K says, and the refusal 'off the plane' where one is not
pub record Worked {A : Type 0} (r : Result A RingFault) (P : A → Type 0) (K : Type 0) : Type 0 where
  pub is : MatchResult r (λ x. P x × K) (λ f. (f ≡ OffPlane) × (K → ⊥))

-- the ring's refusal only where K does not hold; want of memory at any time
abbrev pub Excused : ChainFault → Type 0 → Type 0
Excused (Ring f) K = (f ≡ OffPlane) × (K → ⊥)
Excused Memory K = Unit {0}

-- the same of a function that makes a list, and so may find no memory
pub record Made {A : Type 0} (r : Result A ChainFault) (P : A → Type 0) (K : Type 0) : Type 0 where
  pub is : MatchResult r (λ x. P x × K) (λ f. Excused f K)
