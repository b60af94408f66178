use Rattle.std.proofs.Common.{arith}
use Rattle.rings.proofs.Bounds.{linear, product_at}
use Rattle.tenfold.proofs.row1.Goals as goal

pub overflow_add-result : goal.overflow_add-result
overflow_add-result c =
    let f = product_at c.args.x.row.at c.args.y.row.at c.args.x.near c.args.y.near in
    let s0 = f 0 1 c.times.result c.times.ensures.exact c.times.ensures.small in
    let s1 = f 1 0 c.times-2.result c.times-2.ensures.exact c.times-2.ensures.small in
    omega (arith, linear)

pub overflow_sub-result : goal.overflow_sub-result
overflow_sub-result c =
    let f = product_at c.args.x.row.at c.args.y.row.at c.args.x.near c.args.y.near in
    let s0 = f 0 1 c.times.result c.times.ensures.exact c.times.ensures.small in
    let s1 = f 1 0 c.times-2.result c.times-2.ensures.exact c.times-2.ensures.small in
    let s2 = f 3 3 c.times-3.result c.times-3.ensures.exact c.times-3.ensures.small in
    omega (arith, linear)

pub returns : goal.returns
returns c =
    let f = product_at c.args.x.row.at c.args.y.row.at c.args.x.near c.args.y.near in
    let s0 = f 0 1 c.times.result c.times.ensures.exact c.times.ensures.small in
    let s1 = f 1 0 c.times-2.result c.times-2.ensures.exact c.times-2.ensures.small in
    let s2 = f 3 3 c.times-3.result c.times-3.ensures.exact c.times-3.ensures.small in
    record { is = omega (arith, linear); small = (omega (arith, linear), omega (arith, linear)) }
