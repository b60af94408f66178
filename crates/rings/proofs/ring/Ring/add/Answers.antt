use Rattle.std.proofs.Common.{length, get_or, pos, sym, ap, ◌∙◌}
use Rattle.rings.proofs.Bounds.{recast}
use Rattle.rings.proofs.Workings.{sum_listed}
use Rattle.rings.proofs.ring.Ring.add.Goals as goal

pub returns : goal.returns
returns g c =
    let R = g.Self.Ring in
    let L = g.met.Self.Ring in
    let p = sym (L.plain_listed c.plain.result) ∙ ap R.listed c.plain.ensures ∙ L.listed_row _ in
    let q = sym (L.plain_listed c.plain-2.result) ∙ ap R.listed c.plain-2.ensures ∙ L.listed_row _ in
    let l = R.listed c.plus.result in
    let n = ap length (ap R.listed (sym (L.row_listed c.plus.result)) ∙ L.listed_row (R.exact.of l)) ∙ L.lawful.list_length (R.exact.of l) in
    recast c.from_plain.ensures
    (sum_listed R.exact L.lawful _ _ (L.bounded c.args.self) (L.bounded c.args.other) _ _ l p q n (λ near close k. ap (λ m. get_or m k (pos 0)) (L.plain_listed c.plus.result) ∙ c.plus.ensures.exact near close k))
