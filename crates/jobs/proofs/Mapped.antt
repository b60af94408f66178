-- What `map_err` makes of what a call returns. Assumes nothing.
use Rattle.std.proofs.Common.{◌≡◌, Result, Ok, Err, MatchResult, subst}

pub at_ok : {T E : Type 0} (D : Type 0) (P : T → Type 0) (Q : E → Type 0) (r : Result T E) (x : T) → MatchResult r P Q → MatchResult r (λ y. ◌≡◌ {A = Result T D} (Ok x) (Ok y)) (λ e. ⊥) → P x
at_ok D P Q (Ok y) x m h = let k : y ≡ x = cc in subst P k m
at_ok D P Q (Err e) x m h = absurd h

pub at_err : {T D E : Type 0} (P : T → Type 0) (Q R : E → Type 0) (r : Result T E) (d : D) → MatchResult r P Q → MatchResult r (λ y. ◌≡◌ {A = Result T D} (Err d) (Ok y)) R → (e : E) × Q e × R e
at_err P Q R (Ok y) d m h = cc
at_err P Q R (Err e) d m h = (e, m, h)
