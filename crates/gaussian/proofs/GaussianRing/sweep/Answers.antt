use Rattle.std.proofs.Common.{refl, ap, ◌∙◌, arith}
use Rattle.exact.specs.Models.{gaussian, pair_list}
use Rattle.exact.specs.Sweeps.{row_total}
use Rattle.exact.proofs.Coefficients.{pair_same}
use Rattle.exact.proofs.GaussianLaws.{sweep_by_cross}
use Rattle.rings.proofs.Bounds.{linear, product_at}
use Rattle.gaussian.proofs.GaussianRing.sweep.Goals as goal

pub overflow_sub-cross : goal.overflow_sub-cross
overflow_sub-cross c =
    let f = product_at c.args.self.row.at c.args.to.row.at c.args.self.near c.args.to.near in
    let s0 = f 0 1 c.times.result c.times.ensures.exact c.times.ensures.small in
    let s1 = f 1 0 c.times-2.result c.times-2.ensures.exact c.times-2.ensures.small in
    omega (arith, linear)

pub overflow_add-result : goal.overflow_add-result
overflow_add-result c =
    let f = product_at c.args.self.row.at c.args.to.row.at c.args.self.near c.args.to.near in
    let s0 = f 0 1 c.times.result c.times.ensures.exact c.times.ensures.small in
    let s1 = f 1 0 c.times-2.result c.times-2.ensures.exact c.times-2.ensures.small in
    omega (arith, linear)

pub returns : goal.returns
returns c =
    let f = product_at c.args.self.row.at c.args.to.row.at c.args.self.near c.args.to.near in
    let s0 = f 0 1 c.times.result c.times.ensures.exact c.times.ensures.small in
    let s1 = f 1 0 c.times-2.result c.times-2.ensures.exact c.times-2.ensures.small in
    ap (λ z. row_total (pair_list z)) (pair_same (record { c0 = _; c1 = _ }) _ refl (omega (arith, linear)) ∙ sweep_by_cross (gaussian.of c.args.self.row.at) (gaussian.of c.args.to.row.at))
