use Rattle.std.proofs.Common.{◌≡◌, ◌++◌, map, drop, vec_items}
use Rattle.chains.specs.Edges.{walk}
use Rattle.edges.specs.Views.{chain_view, book_view}
use Rattle.job_rows.specs.Shapes.{step_of}
use Rattle.edges.specs.Working.{KeptWalk}
use Rattle.edges.proofs.walks.walk_from.Given as goal

abbrev pub invariant-loop-s : goal.invariant-loop-s
invariant-loop-s g l =
    let E = g.R.Ring.exact in
    let v = g.R.Ring.value in
    let B = book_view E v l.book in
    (chain_view E v (vec_items l.out) ++ walk E B (map step_of (drop l.s-index l.steps)) (v l.q) ≡ walk E B (map step_of l.steps) (v l.initial.q))
    × (KeptWalk E B (map step_of l.steps) (v l.initial.q) → KeptWalk E B (map step_of (drop l.s-index l.steps)) (v l.q))
    × (KeptWalk E B (map step_of (drop l.s-index l.steps)) (v l.q) → KeptWalk E B (map step_of l.steps) (v l.initial.q))
