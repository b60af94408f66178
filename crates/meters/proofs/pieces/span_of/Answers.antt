use Rattle.std.proofs.Common.{◌≡◌, sym, subst}
use Rattle.chains.specs.Edges.{step_count}
use Rattle.chains.specs.Placements.{placed_entry}
use Rattle.job_rows.specs.Shapes.{step_of}
use Rattle.edges.specs.Views.{edge_view, placement_view, book_view}
use Rattle.meters.specs.declared.span.Span.{Span}
use Rattle.meters.specs.Spans.{Shows}
use Rattle.meters.proofs.Stepping.{ahead_shows, ahead_is, behind_shows, behind_is}
use Rattle.meters.proofs.pieces.span_of.Goals as goal

pub returns-then-s : goal.returns-then-s
returns-then-s g c real q leads =
    let E = g.R.Ring.exact in let v = g.R.Ring.value in let B = book_view E v c.args.book.now in
    let P = placement_view E v c.args.p.now in let s = step_of c.args.s.now in
    let L = g.met.R.Ring.lawful in
    let h = c.heading_of-direction.result in let b = c.opposed.result in (
      ahead_shows E L B v P real s q c.args.from c.args.to leads h b c.heading_of-direction.ensures c.opposed.ensures c.is_arrowed.result c.is_arrowed.ensures,
      ahead_is E L B v P real s q c.args.from c.args.to leads h b c.heading_of-direction.ensures c.opposed.ensures c.is_arrowed.result c.is_arrowed.ensures c.if-s.true,
    )

pub returns-else-s : goal.returns-else-s
returns-else-s g c real q leads =
    let E = g.R.Ring.exact in let v = g.R.Ring.value in let B = book_view E v c.args.book.now in
    let P = placement_view E v c.args.p.now in let s = step_of c.args.s.now in
    let L = g.met.R.Ring.lawful in
    let h = c.heading_of-direction.result in let b = c.opposed.result in
    subst (λ (t : Span g.row.R.Denot). Shows E B v t × (edge_view E v t.edge ≡ (placed_entry E P (step_count E B s q)).what)) (sym c.turned.ensures) (
      behind_shows E L B v P real s q c.args.from c.args.to leads h b c.heading_of-direction.ensures c.opposed.ensures c.is_arrowed.result c.is_arrowed.ensures,
      behind_is E L B v P real s q c.args.from c.args.to leads h b c.heading_of-direction.ensures c.opposed.ensures c.is_arrowed.result c.is_arrowed.ensures c.if-s.false,
    )
