use Rattle.std.proofs.Common.{refl}
use Rattle.std.proofs.lemmas.Option.{MatchOption-at_some}
use Rattle.edges.specs.Views.{book_view}
use Rattle.book.specs.Points.Point.{children_of}
use Rattle.book.proofs.Judging.{alone, judged_err, excused}
use Rattle.book.proofs.check.check_children.Goals as goal

pub returns-in_err-tile_difference : goal.returns-in_err-tile_difference
returns-in_err-tile_difference g c =
    let E = g.R.Ring.exact in let v = g.R.Ring.value in let B = book_view E v c.args.book.now in
    judged_err E B v c.from_residual.result _ _ c.from_residual.ensures.1 (alone E B v (children_of c.args.tile) _ (excused E B v _ _ c.in_err-tile_difference.ensures.is))

pub returns-in-Some : goal.returns-in-Some
returns-in-Some g c =
    let E = g.R.Ring.exact in let v = g.R.Ring.value in let B = book_view E v c.args.book.now in
    record { is = alone E B v (children_of c.args.tile) _ (refl, MatchOption-at_some _ _ _ c.in-Some.is c.in_ok-tile_difference.ensures.is.0) }
