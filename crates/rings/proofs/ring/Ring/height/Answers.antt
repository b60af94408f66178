use Rattle.std.proofs.Common.{ap, ◌∙◌}
use Rattle.rings.proofs.Bounds.{height_recast}
use Rattle.rings.proofs.ring.Ring.height.Goals as goal

pub returns : goal.returns
returns g c =
    let R = g.Self.Ring in
    let L = g.met.Self.Ring in
    height_recast c.height_of.ensures (ap R.exact.of (ap R.listed c.plain.ensures ∙ L.listed_row _) ∙ L.lawful.of_list _)
