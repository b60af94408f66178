use Rattle.std.proofs.Common.{length, get_or, pos, sym, ap, ◌∙◌}
use Rattle.rings.proofs.Bounds.{recast}
use Rattle.rings.proofs.Workings.{difference_listed}
use Rattle.rings.proofs.ring.Ring.sub.Goals as goal

pub returns : goal.returns
returns g c =
    let R = g.Self.Ring in
    let L = g.met.Self.Ring in
    let p = sym (L.plain_listed c.plain.result) ∙ ap R.listed c.plain.ensures ∙ L.listed_row _ in
    let q = sym (L.plain_listed c.plain-2.result) ∙ ap R.listed c.plain-2.ensures ∙ L.listed_row _ in
    let l = R.listed c.minus.result in
    let n = ap length (ap R.listed (sym (L.row_listed c.minus.result)) ∙ L.listed_row (R.exact.of l)) ∙ L.lawful.list_length (R.exact.of l) in
    recast c.from_plain.ensures
    (difference_listed R.exact L.lawful _ _ (L.bounded c.args.self) (L.bounded c.args.other) _ _ l p q n (λ near close k. ap (λ m. get_or m k (pos 0)) (L.plain_listed c.minus.result) ∙ c.minus.ensures.exact near close k))
