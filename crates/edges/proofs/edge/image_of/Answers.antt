use Rattle.std.proofs.Common.{ap, ◌∙◌, subst}
use Rattle.rings.specs.Plane.{OnPlane}
use Rattle.chains.specs.Placements.{image}
use Rattle.edges.proofs.Workings.{last_one}
use Rattle.edges.proofs.edge.image_of.Goals as goal

pub returns : goal.returns
unfolding image
returns g c =
    let E = g.R.Ring.exact in
    let f = c.in_ok-faced.ensures.is in
    let t = c.in_ok-turned.ensures.is in
    last_one E g.R.Ring.value c.add.result _ _ _ (ap (E.add _) (t.0 ∙ ap (E.mul _) f.0)) (λ y. (f.1, subst (OnPlane E) (ap (E.mul _) f.0) t.1, y)) (λ k. k.2) c.add.ensures
