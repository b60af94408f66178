use Rattle.edges.specs.Views.{edge_view, placement_view, book_view}
use Rattle.job_rows.specs.Shapes.{step_of}
use Rattle.meters.proofs.Signs.{counted_back, counted_once}
use Rattle.meters.proofs.pieces.reading_of_step.Goals as goal

pub returns-then-back : goal.returns-then-back
returns-then-back g c real q leads =
    let E = g.R.Ring.exact in let v = g.R.Ring.value in let B = book_view E v c.args.book.now in
    let k = c.span_of-span.ensures real q leads in
    let x = c.read-value.result in
    counted_back E B (placement_view E v c.args.p.now) (step_of c.args.s.now) q g.M.Meter.group g.met.M.Meter.lawful (g.M.Meter.reads c.args.meter.now E v B)
    (g.M.Meter.worth x) (edge_view E v c.span_of-span.result.edge) (c.read-value.ensures B k.0) k.1 c.if-back.true
    (g.M.Meter.worth c.opposite.result) (g.met.M.Meter.tied.opposite x c.opposite.result c.opposite.ensures)

pub returns-else-back : goal.returns-else-back
returns-else-back g c real q leads =
    let E = g.R.Ring.exact in let v = g.R.Ring.value in let B = book_view E v c.args.book.now in
    let k = c.span_of-span.ensures real q leads in
    counted_once E B (placement_view E v c.args.p.now) (step_of c.args.s.now) q g.M.Meter.group g.met.M.Meter.lawful (g.M.Meter.reads c.args.meter.now E v B)
    (g.M.Meter.worth c.read-value.result) (edge_view E v c.span_of-span.result.edge) (c.read-value.ensures B k.0) k.1 c.if-back.false
