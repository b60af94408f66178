use Rattle.std.proofs.Common.{ap, ◌∙◌}
use Rattle.chains.specs.Placements.{image}
use Rattle.edges.specs.Views.{placement_view, book_view}
use Rattle.nodes.proofs.Testing.{off_at}
use Rattle.meters.proofs.Corners.{step_kept, place_kept, both_kept}
use Rattle.meters.proofs.pieces.corner_after.Goals as goal

pub returns-in_err-own : goal.returns-in_err-own
returns-in_err-own g c =
    let E = g.R.Ring.exact in let v = g.R.Ring.value in let B = book_view E v c.args.book.now in
    let s = c.args.s.now in
    off_at c.from_residual.result _ _ _ _ c.from_residual.ensures.1 (step_kept E B (placement_view E v c.args.p.now) s.label s.direction (v c.args.from)) c.in_err-own.ensures.is

pub returns-in_err-placed : goal.returns-in_err-placed
returns-in_err-placed g c =
    let E = g.R.Ring.exact in let v = g.R.Ring.value in let B = book_view E v c.args.book.now in
    let s = c.args.s.now in
    off_at c.from_residual-in_err-placed.result _ _ _ _ c.from_residual-in_err-placed.ensures.1
    (place_kept E B (placement_view E v c.args.p.now) s.label s.direction (v c.args.from) (v c.in_ok-own.own) c.in_ok-own.ensures.is.0) c.in_err-placed.ensures.is

pub returns : goal.returns
returns g c =
    let E = g.R.Ring.exact in let v = g.R.Ring.value in let B = book_view E v c.args.book.now in
    let p = placement_view E v c.args.p.now in
    let s = c.args.s.now in
    let k = c.in_ok-own.ensures.is in
    let h = c.in_ok-placed.ensures.is in
    record { is = ((k.0, h.0 ∙ ap (image E p) k.0), both_kept E B p s.label s.direction (v c.args.from) (v c.in_ok-own.own) k.0 k.1 h.1) }
