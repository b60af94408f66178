use Rattle.std.proofs.Common.{pos, slice_index_or, rules, w64, SFits}
use Rattle.std.proofs.lemmas.Int.{wrapping_sub_is}
use Rattle.rings.proofs.rows.fn.RowCoefficients.minus.from_fn.Goals as goal

pub returns : goal.returns
returns g c =
    let a = slice_index_or c.captures.left c.args.k (pos 0) in
    let b = slice_index_or c.captures.right c.args.k (pos 0) in
    let f : SFits w64 a = search rules in
    let h : SFits w64 b = search rules in
    wrapping_sub_is w64 a b f h
