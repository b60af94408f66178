use Rattle.std.proofs.Common.{◌≡◌, Bool, true, ap, subst}
use Rattle.edges.specs.Answers.{Worked}
use Rattle.edges.specs.Views.{placement_view, book_view}
use Rattle.nodes.specs.OnPlane.{kept_corners, kept_corners_from}
use Rattle.nodes.proofs.composing.corners_kept.Goals as goal

pub returns : goal.returns
unfolding kept_corners
returns g c =
    let E = g.R.Ring.exact in let v = g.R.Ring.value in
    let p = placement_view E v c.args.p.now in
    subst (λ (k : Bool). Worked c.corners_along.result (λ _. Unit {0}) (k ≡ true)) (ap (λ ss. kept_corners_from E (book_view E v c.args.book.now) p ss E.zero) c.steps_of.ensures) c.corners_along.ensures
