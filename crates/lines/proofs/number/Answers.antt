use Rattle.std.proofs.Common.{suc, arith}
use Rattle.lines.proofs.Cutting.{stripped}
use Rattle.lines.proofs.Decimal.{minus_word, plain_unique}
use Rattle.lines.proofs.number.Goals as goal

pub returns-in_err-n-in-Some : goal.returns-in_err-n-in-Some
returns-in_err-n-in-Some c =
    let space = stripped _ _ _ c.in_ok-text.ensures.cases in
    let minus = stripped _ _ _ c.in-Some.ensures.cases in
    rw c.from_residual-in_err-n-in-Some.ensures (λ z rest w. let m = minus_word _ _ _ space minus z rest w in c.in_err-n-in-Some.ensures (suc m.0) rest m.2)

pub returns-then-n-eq0 : goal.returns-then-n-eq0
returns-then-n-eq0 c z rest w =
    let m = minus_word _ _ _ (stripped _ _ _ c.in_ok-text.ensures.cases) (stripped _ _ _ c.in-Some.ensures.cases) z rest w in
    omega (arith, (plain_unique _ _ _ _ _ m.2 c.in_ok-n-in-Some.ensures).0)
