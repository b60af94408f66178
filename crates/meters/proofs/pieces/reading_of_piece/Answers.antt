use Rattle.std.proofs.Common.{◌≡◌, true, subst}
use Rattle.exact.specs.JobNumbers.{Step}
use Rattle.std.proofs.Common.{List}
use Rattle.chains.specs.Counts.{reading}
use Rattle.chains.specs.Edges.{walk}
use Rattle.chains.specs.Placements.{placed, outline, placed_outline}
use Rattle.chains.specs.Theorems.{RealLengths}
use Rattle.edges.specs.Answers.{Worked}
use Rattle.edges.specs.Views.{placement_view, book_view}
use Rattle.nodes.specs.OnPlane.{kept_corners_from, kept_corners}
use Rattle.meters.proofs.pieces.reading_of_piece.Goals as goal

pub returns : goal.returns
unfolding outline placed_outline kept_corners
returns g c =
    let E = g.R.Ring.exact in let v = g.R.Ring.value in let B = book_view E v c.args.book.now in
    let p = placement_view E v c.args.p.now in
    subst (λ (ss : List Step). Worked c.reading_of_steps.result
    (λ a. RealLengths E B → g.M.Meter.worth a ≡ reading g.M.Meter.group (g.M.Meter.reads c.args.meter.now E v B) (placed E p (walk E B ss E.zero)))
    (kept_corners_from E B p ss E.zero ≡ true)) c.steps_of.ensures c.reading_of_steps.ensures
