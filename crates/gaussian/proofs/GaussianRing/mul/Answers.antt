use Rattle.std.proofs.Common.{arith}
use Rattle.exact.proofs.Coefficients.{pair_same}
use Rattle.rings.proofs.Bounds.{recast, linear, product_at}
use Rattle.gaussian.proofs.GaussianRing.mul.Goals as goal

pub overflow_sub-times : goal.overflow_sub-times
overflow_sub-times c =
    let f = product_at c.args.self.row.at c.args.other.row.at c.args.self.near c.args.other.near in
    let s0 = f 0 0 c.times.result c.times.ensures.exact c.times.ensures.small in
    let s1 = f 1 1 c.times-2.result c.times-2.ensures.exact c.times-2.ensures.small in
    omega (arith, linear)

pub overflow_add-times : goal.overflow_add-times
overflow_add-times c =
    let f = product_at c.args.self.row.at c.args.other.row.at c.args.self.near c.args.other.near in
    let s0 = f 0 1 c.times-3.result c.times-3.ensures.exact c.times-3.ensures.small in
    let s1 = f 1 0 c.times-4.result c.times-4.ensures.exact c.times-4.ensures.small in
    omega (arith, linear)

pub returns : goal.returns
returns c =
    let f = product_at c.args.self.row.at c.args.other.row.at c.args.self.near c.args.other.near in
    let s0 = f 0 0 c.times.result c.times.ensures.exact c.times.ensures.small in
    let s1 = f 1 1 c.times-2.result c.times-2.ensures.exact c.times-2.ensures.small in
    let s2 = f 0 1 c.times-3.result c.times-3.ensures.exact c.times-3.ensures.small in
    let s3 = f 1 0 c.times-4.result c.times-4.ensures.exact c.times-4.ensures.small in
    recast c.from_plain.ensures (pair_same _ _ (omega (arith, linear)) (omega (arith, linear)))
