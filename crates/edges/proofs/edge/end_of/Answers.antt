use Rattle.std.proofs.Common.{ap, ◌∙◌, subst}
use Rattle.exact.specs.Cyclotomic.{power}
use Rattle.rings.specs.Plane.{OnPlane}
use Rattle.chains.specs.Edges.{along}
use Rattle.edges.proofs.Workings.{last_one}
use Rattle.edges.proofs.edge.end_of.Goals as goal

pub returns : goal.returns
unfolding along
returns g c =
    let E = g.R.Ring.exact in
    let k = c.in_ok-along.ensures.is in
    let l = ap (E.mul (power E c.args.j)) c.length_of.ensures in
    last_one E g.R.Ring.value c.add.result _ _ _ (ap (E.add _) (k.0 ∙ l)) (λ y. (subst (OnPlane E) l k.1, y)) (λ k. k.1) c.add.ensures
