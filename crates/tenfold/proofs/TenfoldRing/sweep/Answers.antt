use Rattle.std.proofs.Common.{◌+ℤ◌, ◌*ℤ◌, neg_ℤ, ap, ◌∙◌, ap₂, arith}
use Rattle.exact.specs.Models.{tenfold, quad_list}
use Rattle.exact.specs.Sweeps.{row_total}
use Rattle.exact.proofs.TenfoldLaws.{sweep_by_crosses, by_crosses}
use Rattle.rings.proofs.Bounds.{linear, across}
use Rattle.tenfold.proofs.TenfoldRing.sweep.Goals as goal

pub overflow_add-result-2 : goal.overflow_add-result-2
overflow_add-result-2 c =
    let a = c.near_cross-a.ensures.small in
    let b = c.far_cross-b.ensures.small in
    omega (arith, linear)

pub returns : goal.returns
returns c =
    ap (λ z. row_total (quad_list z))
    (across _ _ c.near_cross-a.ensures.small c.far_cross-b.ensures.small
    ∙ ap₂ (by_crosses ◌+ℤ◌ ◌*ℤ◌ neg_ℤ) c.near_cross-a.ensures.is c.far_cross-b.ensures.is
    ∙ sweep_by_crosses (tenfold.of c.args.self.row.at) (tenfold.of c.args.to.row.at))
