-- Texts put onto a sheet one after the other.
use Rattle.std.proofs.Common.{◌≡◌, ℕ, List, ◌++◌, length, Ok, Err, Result, ap, ◌∙◌, append_assoc, arith}
use Rattle.std.proofs.lemmas.List.{length-append}
use Rattle.arrayvec.specs.ArrayVec.{ArrayVec}
use Rattle.faults.specs.declared.TooShort.{TooShort}
use Rattle.jobs.specs.Puts.{Puts}

pub then_puts : (old mid new : ArrayVec ℕ) (a b : List ℕ) (r : Result (Unit {0}) TooShort) → mid.items ≡ old.items ++ a → Puts mid b new r → Puts old (a ++ b) new r
then_puts old mid new a b (Ok _) e p = p ∙ ap (λ t. t ++ b) e ∙ append_assoc old.items a b
then_puts old mid new a b (Err _) e p =
    let n = ap length e in
    let m = length-append old.items a in
    let k = length-append a b in
    omega arith
