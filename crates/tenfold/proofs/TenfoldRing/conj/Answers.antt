use Rattle.std.proofs.Common.{arith}
use Rattle.std.proofs.lemmas.Int.{ints}
use Rattle.exact.proofs.Coefficients.{quad_same}
use Rattle.rings.specs.Plane.{plane_bound}
use Rattle.rings.proofs.Bounds.{recast}
use Rattle.rings.proofs.Lists.{within_at}
use Rattle.tenfold.proofs.TenfoldRing.conj.Goals as goal

pub returns : goal.returns
returns c =
    let near = within_at plane_bound c.args.self.row.at c.args.self.near in
    let n0 = near 0 in
    let n1 = near 1 in
    let n2 = near 2 in
    let n3 = near 3 in
    recast c.from_plain.ensures (quad_same _ _ (omega (arith, ints)) (omega (arith, ints)) (omega (arith, ints)) (omega (arith, ints)))
