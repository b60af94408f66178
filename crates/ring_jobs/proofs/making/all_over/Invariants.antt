use Rattle.std.proofs.Common.{◌≡◌, ◌++◌, map, drop, vec_items}
use Rattle.std.specs.List.{AllByRecursion}
use Rattle.ring_jobs.proofs.making.all_over.Given as goal

abbrev pub invariant-loop-row : goal.invariant-loop-row
invariant-loop-row g l =
    let T = g.T.FromRow in
    (map T.made (vec_items l.out) ++ map (λ x. T.as_read (T.listed x)) (drop l.row-index l.rows) ≡ map (λ x. T.as_read (T.listed x)) l.rows)
    × (AllByRecursion T.OnPlane (map T.listed (drop l.row-index l.rows)) → AllByRecursion T.OnPlane (map T.listed l.rows))
