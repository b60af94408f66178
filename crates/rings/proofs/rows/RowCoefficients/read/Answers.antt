use Rattle.std.proofs.Common.{◌≡◌, pos, slice_index_or, rules}
use Rattle.rings.proofs.Lists.{filled_at, fitted_by_all}
use Rattle.rings.proofs.rows.RowCoefficients.read.Goals as goal

pub returns : goal.returns
returns g c =
    let l = c.args.list.now in
    let items = c.from_fn.ensures.items in
    fitted_by_all l _ g.row.D items.long (filled_at _ _ (λ i y. y ≡ slice_index_or l i (pos 0)) (λ i y q h. search rules) _ _ items (pos 0))
