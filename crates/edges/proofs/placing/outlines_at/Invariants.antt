use Rattle.std.proofs.Common.{◌≡◌, ◌++◌, map, drop, vec_items}
use Rattle.std.specs.List.{AllByRecursion}
use Rattle.edges.specs.Views.{chain_view, placement_view, book_view}
use Rattle.edges.specs.Working.{KeptPlacedOutline}
use Rattle.edges.proofs.Chained.{outline_rest}
use Rattle.edges.proofs.placing.outlines_at.Given as goal

abbrev pub invariant-loop-p : goal.invariant-loop-p
invariant-loop-p g l =
    let E = g.R.Ring.exact in
    let v = g.R.Ring.value in
    let B = book_view E v l.book in
    (chain_view E v (vec_items l.out) ++ outline_rest E v B (drop l.p-index l.placements) ≡ outline_rest E v B l.placements)
    × (AllByRecursion (KeptPlacedOutline E B) (map (placement_view E v) (drop l.p-index l.placements)) → AllByRecursion (KeptPlacedOutline E B) (map (placement_view E v) l.placements))
