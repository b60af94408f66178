use Rattle.std.proofs.Common.{◌≤◌, sym, ap, ◌∙◌, subst}
use Rattle.chains.specs.Addresses.{child_address}
use Rattle.edges.specs.Views.{placement_view}
use Rattle.nodes.specs.Views.{address_view}
use Rattle.ring_jobs.proofs.Booked.{depth_is}
use Rattle.placer.proofs.Families.{taken_short, family_entry}
use Rattle.placer.proofs.memo.MemoPlacer.place.Goals as goal

pub returns-in-Ok-clause-answer : goal.returns-in-Ok-clause-answer
returns-in-Ok-clause-answer g c s =
    let E = g.P.R.Ring.exact in
    let v = g.P.R.Ring.value in
    let at = c.args.at.now in
    let over = address_view c.in-Some.over in
    let N = g.P.Placer.plan c.args.self.now.lower in
    let depth = c.job.result.now.depth in
    c.child_placement.ensures
    ∙ family_entry E N _ over (address_view at) (placement_view E v c.in-Ok.above) c.from-in-Ok.result at.level depth
    (c.job-in-Ok.ensures ∙ c.parent-2.ensures.kept)
    (c.in-Some.ensures ∙ ap (child_address over) (sym c.from-in-Ok.ensures))
    (taken_short at.level at.path)
    (subst (λ n. n ≤ depth) c.from.ensures c.if-from-job.false)
    (ap (λ M. M.depth) (sym c.job.ensures) ∙ depth_is E g.met.P.R.Ring.lawful v c.job.result.now)
    (c.in-Ok.ensures.answer s)
