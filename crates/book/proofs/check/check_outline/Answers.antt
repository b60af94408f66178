use Rattle.std.proofs.Common.{refl}
use Rattle.edges.specs.Views.{book_view}
use Rattle.book.specs.Points.Point.{outline_of}
use Rattle.book.proofs.Tests.{no}
use Rattle.book.proofs.Judging.{alone, judged_err}
use Rattle.book.proofs.check.check_outline.Goals as goal

pub returns-in_err-outline_closes : goal.returns-in_err-outline_closes
returns-in_err-outline_closes g c =
    let E = g.R.Ring.exact in let v = g.R.Ring.value in let B = book_view E v c.args.book.now in
    judged_err E B v c.from_residual.result _ _ c.from_residual.ensures.1 (alone E B v (outline_of c.args.tile) _ c.in_err-outline_closes.ensures.is)

pub returns-else-branch : goal.returns-else-branch
returns-else-branch g c =
    let E = g.R.Ring.exact in let v = g.R.Ring.value in let B = book_view E v c.args.book.now in
    record { is = alone E B v (outline_of c.args.tile) _ (refl, no _ c.if-branch.false c.in_ok-outline_closes.ensures) }
