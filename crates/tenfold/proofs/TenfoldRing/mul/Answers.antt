use Rattle.std.proofs.Common.{◌∙◌, arith}
use Rattle.exact.specs.Models.{tenfold}
use Rattle.exact.proofs.Coefficients.{quad_same}
use Rattle.exact.proofs.TenfoldLaws.{mul_by_rows}
use Rattle.rings.proofs.Bounds.{recast, linear}
use Rattle.tenfold.proofs.TenfoldRing.mul.Goals as goal

pub returns : goal.returns
returns c =
    let e = c.fourth-fold.ensures.is in
    let s = c.fourth-fold.ensures.small in
    let e0 = c.row0.ensures.is in
    let s0 = c.row0.ensures.small in
    let e1 = c.row1.ensures.is in
    let s1 = c.row1.ensures.small in
    let e2 = c.row2.ensures.is in
    let s2 = c.row2.ensures.small in
    let e3 = c.row3.ensures.is in
    let s3 = c.row3.ensures.small in
    recast c.from_plain.ensures
    (quad_same _ _ (omega (arith, linear)) (omega (arith, linear)) (omega (arith, linear)) (omega (arith, linear))
    ∙ mul_by_rows (tenfold.of c.args.self.row.at) (tenfold.of c.args.other.row.at))
