use Rattle.std.proofs.Common.{◌≡◌, ◌++◌, map, drop, vec_items}
use Rattle.edges.specs.Views.{chain_view, placement_view}
use Rattle.edges.specs.Working.{KeptPlaced}
use Rattle.edges.proofs.Chained.{placed_one}
use Rattle.edges.proofs.placing.put_placed.Given as goal

abbrev pub invariant-loop-x : goal.invariant-loop-x
invariant-loop-x g l =
    let E = g.R.Ring.exact in
    let v = g.R.Ring.value in
    let p = placement_view E v l.p in
    (chain_view E v (vec_items l.out) ++ map (placed_one E v p) (drop l.x-index l.chain) ≡ chain_view E v (vec_items l.initial.out) ++ map (placed_one E v p) l.chain)
    × (KeptPlaced E p (chain_view E v (drop l.x-index l.chain)) → KeptPlaced E p (chain_view E v l.chain))
