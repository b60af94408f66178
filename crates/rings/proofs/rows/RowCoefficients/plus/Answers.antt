use Rattle.std.proofs.Common.{◌≡◌, pos, slice_index_or, ◌+ℤ◌, refl, rules, w64}
use Rattle.std.specs.Int.{int_wrap}
use Rattle.rings.proofs.Lists.{filled_at, by_index, exact_sums}
use Rattle.rings.proofs.rows.RowCoefficients.plus.Goals as goal

pub returns : goal.returns
returns g c =
    let l = c.args.self.at in
    let m = c.args.other.at in
    let items = c.from_fn.ensures.items in
    let is = by_index l m c.from_fn.result g.row.D c.args.self.full c.args.other.full items.long ◌+ℤ◌ refl (λ k lt. filled_at _ _ (λ i y. y ≡ int_wrap w64 (slice_index_or l i (pos 0) +ℤ slice_index_or m i (pos 0))) (λ i y q h. search rules) _ _ items (pos 0) k lt) in
    record { is = is; exact = λ p q. exact_sums l m c.from_fn.result p q is }
