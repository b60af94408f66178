use Rattle.std.proofs.Common.{◌≡◌, arith, Some, None}
use Rattle.std.proofs.lemmas.Fn.{says_at}
use Rattle.std.proofs.lemmas.Result.{err_from_is_err_and}
use Rattle.std.specs.Fn.{FnReturnsAt}
use Rattle.jobs.specs.declared.draft.Misfit.TheVariants.{Numbers}
use Rattle.jobs.proofs.Rowed.{read_push, refused_at}
use Rattle.jobs.proofs.decoding.rows.Goals as goal

pub returns-in_err-ok_or : goal.returns-in_err-ok_or
returns-in_err-ok_or g c =
    let p = err_from_is_err_and c.from_residual.result c.from_residual.ensures.1 in
    let e : c.in_err-ok_or.field-0.0 ≡ Numbers = grind arith in
    let n : c.read.result ≡ None = grind arith in
    rw (p.1, p.2, e) (refused_at _ _ _ c.as_chunks.result.0.now c.loop-row.row-index c.row-item.result c.as_chunks.ensures.front c.loop-row-test.true c.row-item.is (says_at g.F.Fn c.read.ensures n))

pub loop-row-preserved : goal.loop-row-preserved
loop-row-preserved g c =
    let e : c.read.result ≡ Some c.in_ok-ok_or.field-0 = grind arith in
    let r = read_push (λ row r. FnReturnsAt g.F.Fn c.args.read row r) _ _ _ c.row-item.result _ c.loop-row-test.true c.row-item.is c.loop-row.invariant (says_at g.F.Fn c.read.ensures e) in
    rw c.in_ok-push.ensures.items r
