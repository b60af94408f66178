-- What `ok_or` makes of what a call offers. Assumes nothing.
use Rattle.std.proofs.Common.{◌≡◌, Option, Some, None, Ok, Err, MatchOption, subst}
use Rattle.std.specs.Option.{ok_or}

pub at_ok : {T E : Type 0} (P : Type 0) (Q : T → Type 0) (o : Option T) (e : E) (x : T) → MatchOption o P Q → Ok x ≡ ok_or o e → Q x
at_ok P Q (Some y) e x m h = let k : y ≡ x = cc in subst Q k m
at_ok P Q None e x m h = cc

pub at_err : {T E : Type 0} (P : Type 0) (Q : T → Type 0) (o : Option T) (e d : E) → MatchOption o P Q → Err d ≡ ok_or o e → P
at_err P Q (Some y) e d m h = cc
at_err P Q None e d m h = m
