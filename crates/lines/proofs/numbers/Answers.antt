use Rattle.std.proofs.Common.{◌≡◌, [], ◌∷◌, ◌++◌, vec_items, sym, subst, arith, rules}
use Rattle.std.proofs.lemmas.Result.{err_from_is_err_and}
use Rattle.std.proofs.lemmas.Bool.Decides.{nat_tests}
use Rattle.lines.proofs.Offered.{at_ok, at_err}
use Rattle.lines.proofs.Sequence.{Upto, upto_more, upto_all, upto_stuck, word_shorter}
use Rattle.lines.proofs.numbers.Goals as goal

pub returns-in_err-z : goal.returns-in_err-z
returns-in_err-z c =
    let p = err_from_is_err_and c.from_residual.result c.from_residual.ensures.1 in
    rw (p.1, p.2) (λ _. upto_stuck _ _ _ c.loop-rest.invariant (let e = c.loop-rest-test.ensures in grind (arith, nat_tests)) (at_err _ _ _ _ _ c.number.ensures c.in_err-z.ensures.value))

pub loop-rest-smaller : goal.loop-rest-smaller
loop-rest-smaller c = word_shorter _ _ _ (at_ok _ _ _ _ _ c.number.ensures c.in_ok-z.ensures.value)

pub loop-rest-preserved : goal.loop-rest-preserved
loop-rest-preserved c =
    let p : vec_items c.push.new.self ≡ vec_items c.loop-rest.found ++ c.in_ok-z.z ∷ [] = search rules in
    subst (λ zs. Upto c.args.s.now zs c.in_ok-z.more.now) (sym p) (upto_more _ _ _ _ _ c.loop-rest.invariant (at_ok _ _ _ _ _ c.number.ensures c.in_ok-z.ensures.value))

pub returns : goal.returns
returns c = upto_all _ _ _ c.loop-rest.invariant (let e = c.loop-rest-test.ensures in grind (arith, nat_tests))
