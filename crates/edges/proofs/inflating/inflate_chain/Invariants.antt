use Rattle.std.proofs.Common.{◌≡◌, ◌++◌, drop, vec_items}
use Rattle.edges.specs.Views.{chain_view, book_view}
use Rattle.edges.specs.Working.{KeptInflated}
use Rattle.edges.proofs.Chained.{inflated_rest}
use Rattle.edges.proofs.inflating.inflate_chain.Given as goal

abbrev pub invariant-loop-x : goal.invariant-loop-x
invariant-loop-x g l =
    let E = g.R.Ring.exact in
    let v = g.R.Ring.value in
    let B = book_view E v l.book in
    (chain_view E v (vec_items l.out) ++ inflated_rest E v B (drop l.x-index l.chain) ≡ inflated_rest E v B l.chain)
    × (KeptInflated E B (chain_view E v (drop l.x-index l.chain)) → KeptInflated E B (chain_view E v l.chain))
