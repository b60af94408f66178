use Rattle.std.proofs.Common.{arith}
use Rattle.rings.proofs.Bounds.{linear, product_at}
use Rattle.tenfold.proofs.cross.Goals as goal

pub overflow_sub-result : goal.overflow_sub-result
overflow_sub-result c =
    let f = product_at c.args.x.row.at c.args.y.row.at c.args.x.near c.args.y.near in
    let s0 = f c.args.i c.args.j c.times.result c.times.ensures.exact c.times.ensures.small in
    let s1 = f c.args.j c.args.i c.times-2.result c.times-2.ensures.exact c.times-2.ensures.small in
    omega (arith, linear)

pub returns : goal.returns
returns c =
    let f = product_at c.args.x.row.at c.args.y.row.at c.args.x.near c.args.y.near in
    let s0 = f c.args.i c.args.j c.times.result c.times.ensures.exact c.times.ensures.small in
    let s1 = f c.args.j c.args.i c.times-2.result c.times-2.ensures.exact c.times-2.ensures.small in
    record { is = omega (arith, linear); small = (omega (arith, linear), omega (arith, linear)) }
