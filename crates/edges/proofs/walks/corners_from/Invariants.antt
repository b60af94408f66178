use Rattle.std.proofs.Common.{◌≡◌, ◌++◌, map, drop, vec_items}
use Rattle.chains.specs.Edges.{corners}
use Rattle.edges.specs.Views.{book_view}
use Rattle.job_rows.specs.Shapes.{step_of}
use Rattle.edges.specs.Working.{KeptWalk}
use Rattle.edges.proofs.walks.corners_from.Given as goal

abbrev pub invariant-loop-s : goal.invariant-loop-s
invariant-loop-s g l =
    let E = g.R.Ring.exact in
    let v = g.R.Ring.value in
    let B = book_view E v l.book in
    (map v (vec_items l.out) ++ corners E B (map step_of (drop l.s-index l.steps)) (v l.q) ≡ corners E B (map step_of l.steps) (v l.initial.q))
    × (KeptWalk E B (map step_of l.steps) (v l.initial.q) → KeptWalk E B (map step_of (drop l.s-index l.steps)) (v l.q))
    × (KeptWalk E B (map step_of (drop l.s-index l.steps)) (v l.q) → KeptWalk E B (map step_of l.steps) (v l.initial.q))
