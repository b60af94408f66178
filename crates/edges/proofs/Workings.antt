-- From an operation's answer to that of a function which goes on from it.
use Rattle.std.proofs.Common.{◌≡◌, Result, sym, ◌∙◌, subst}
use Rattle.std.proofs.lemmas.Result.{MatchResult-weaker}
use Rattle.exact.specs.Cyclotomic.{Cyclotomic}
use Rattle.rings.specs.declared.fault.RingFault.{RingFault}
use Rattle.rings.specs.Plane.{OnPlane}
use Rattle.rings.specs.Answers.{Exactly}
use Rattle.edges.specs.Answers.{Worked}

-- the last operation of a formula, where what came before is on the plane
pub last_one : {S : Type 0} (E : Cyclotomic) (v : S → E.Elem) (r : Result S RingFault) (x y : E.Elem) (K : Type 0) →
    x ≡ y → (OnPlane E y → K) → (K → OnPlane E y) → Exactly E v r x → Worked r (λ z. v z ≡ y) K
last_one E v r x y K e f h a = record { is = MatchResult-weaker r a.is (λ z k. (k.0 ∙ e, f (subst (OnPlane E) e k.1))) (λ _ n. (n.0, λ k. n.1 (subst (OnPlane E) (sym e) (h k)))) }
