use Rattle.std.proofs.Common.{◌≡◌, ◌++◌, map, drop, vec_items}
use Rattle.edges.specs.Views.{chain_view, book_view}
use Rattle.edges.specs.Working.{KeptForms}
use Rattle.edges.proofs.Chained.{canonical_one}
use Rattle.edges.proofs.placing.canonical_chain.Given as goal

abbrev pub invariant-loop-x : goal.invariant-loop-x
invariant-loop-x g l =
    let E = g.R.Ring.exact in
    let v = g.R.Ring.value in
    let B = book_view E v l.book in
    (chain_view E v (vec_items l.out) ++ map (canonical_one E v B) (drop l.x-index l.chain) ≡ map (canonical_one E v B) l.chain)
    × (KeptForms E B (chain_view E v (drop l.x-index l.chain)) → KeptForms E B (chain_view E v l.chain))
