use Rattle.edges.specs.Views.{book_view}
use Rattle.book.proofs.Rounds.{SoFar}
use Rattle.book.proofs.outlines.go_round.Given as goal

abbrev pub invariant-loop-s : goal.invariant-loop-s
invariant-loop-s g l =
    let E = g.R.Ring.exact in
    let v = g.R.Ring.value in
    SoFar E (book_view E v l.book) l.steps l.s-index (v l.end) (g.R.Ring.total l.swept)
