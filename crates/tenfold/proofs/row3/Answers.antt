use Rattle.std.proofs.Common.{◌+ℤ◌, ◌∙◌, ap₂, arith}
use Rattle.rings.proofs.Bounds.{linear, product_at, add4}
use Rattle.tenfold.proofs.row3.Goals as goal

pub overflow_add-outer : goal.overflow_add-outer
overflow_add-outer c =
    let f = product_at c.args.x.row.at c.args.y.row.at c.args.x.near c.args.y.near in
    let s0 = f 0 3 c.times.result c.times.ensures.exact c.times.ensures.small in
    let s1 = f 3 0 c.times-2.result c.times-2.ensures.exact c.times-2.ensures.small in
    omega (arith, linear)

pub overflow_add-inner : goal.overflow_add-inner
overflow_add-inner c =
    let f = product_at c.args.x.row.at c.args.y.row.at c.args.x.near c.args.y.near in
    let s0 = f 1 2 c.times-3.result c.times-3.ensures.exact c.times-3.ensures.small in
    let s1 = f 2 1 c.times-4.result c.times-4.ensures.exact c.times-4.ensures.small in
    omega (arith, linear)

pub overflow_add-result : goal.overflow_add-result
overflow_add-result c =
    let f = product_at c.args.x.row.at c.args.y.row.at c.args.x.near c.args.y.near in
    let s0 = f 0 3 c.times.result c.times.ensures.exact c.times.ensures.small in
    let s1 = f 3 0 c.times-2.result c.times-2.ensures.exact c.times-2.ensures.small in
    let s2 = f 1 2 c.times-3.result c.times-3.ensures.exact c.times-3.ensures.small in
    let s3 = f 2 1 c.times-4.result c.times-4.ensures.exact c.times-4.ensures.small in
    omega (arith, linear)

pub returns : goal.returns
returns c =
    let f = product_at c.args.x.row.at c.args.y.row.at c.args.x.near c.args.y.near in
    let s0 = f 0 3 c.times.result c.times.ensures.exact c.times.ensures.small in
    let s1 = f 3 0 c.times-2.result c.times-2.ensures.exact c.times-2.ensures.small in
    let s2 = f 1 2 c.times-3.result c.times-3.ensures.exact c.times-3.ensures.small in
    let s3 = f 2 1 c.times-4.result c.times-4.ensures.exact c.times-4.ensures.small in
    let s = add4 _ _ _ _ s0.1 s1.1 s2.1 s3.1 in
    record { is = s.0 ∙ ap₂ ◌+ℤ◌ (ap₂ ◌+ℤ◌ s0.0 s1.0) (ap₂ ◌+ℤ◌ s2.0 s3.0); small = s.1 }
