use Rattle.std.proofs.Common.{◌≡◌, map, drop}
use Rattle.job_rows.specs.Shapes.{step_of}
use Rattle.edges.specs.Views.{placement_view, book_view}
use Rattle.nodes.specs.OnPlane.{kept_corners_from}
use Rattle.nodes.proofs.composing.corners_along.Given as goal

abbrev pub invariant-loop-s : goal.invariant-loop-s
invariant-loop-s g l =
    let E = g.R.Ring.exact in
    let v = g.R.Ring.value in
    let B = book_view E v l.book in
    let p = placement_view E v l.p in
    kept_corners_from E B p (map step_of l.steps) E.zero ≡ kept_corners_from E B p (map step_of (drop l.s-index l.steps)) (v l.q)
