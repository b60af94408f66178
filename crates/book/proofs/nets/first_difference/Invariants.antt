use Rattle.std.proofs.Common.{◌≡◌, ◌++◌, take, None}
use Rattle.std.specs.List.{AllByRecursion}
use Rattle.edges.specs.Views.{chain_view, counted_view}
use Rattle.book.specs.Differences.{SameAt}
use Rattle.book.proofs.Sides.{passed, Side}
use Rattle.book.proofs.nets.first_difference.Given as goal

abbrev pub invariant-loop-x : goal.invariant-loop-x
invariant-loop-x g l =
    let E = g.R.Ring.exact in
    let v = g.R.Ring.value in
    (l.found ≡ None)
    × Side l.parts l.whole l.side-index l.side
    × AllByRecursion (λ x. SameAt E (chain_view E v l.parts) (chain_view E v l.whole) (counted_view E v x)) (passed l.parts l.whole l.side-index ++ take l.x-index l.side)

abbrev pub invariant-search : goal.invariant-search
invariant-search g l =
    let E = g.R.Ring.exact in
    let v = g.R.Ring.value in
    (l.found ≡ None)
    × AllByRecursion (λ x. SameAt E (chain_view E v l.parts) (chain_view E v l.whole) (counted_view E v x)) (passed l.parts l.whole l.side-index)
