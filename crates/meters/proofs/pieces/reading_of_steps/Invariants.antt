use Rattle.edges.specs.Views.{placement_view, book_view}
use Rattle.meters.proofs.Rounds.{SoFar}
use Rattle.meters.proofs.pieces.reading_of_steps.Given as goal

abbrev pub invariant-loop-s : goal.invariant-loop-s
invariant-loop-s g l =
    let E = g.R.Ring.exact in
    let v = g.R.Ring.value in
    let B = book_view E v l.book in
    SoFar E B (placement_view E v l.p) l.steps v g.M.Meter.group (g.M.Meter.reads l.meter E v B) l.s-index l.at.own l.at.placed (g.M.Meter.worth l.sum)
