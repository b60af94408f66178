use Rattle.std.proofs.Common.{get_or, pos, sym, ap, ◌∙◌, w64}
use Rattle.std.proofs.lemmas.Int.{to_z-of_z}
use Rattle.rings.proofs.Workings.{coefficient_at}
use Rattle.rings.proofs.ring.Ring.sweep_coefficient.Goals as goal

pub returns : goal.returns
returns g c =
    let R = g.Self.Ring in
    let L = g.met.Self.Ring in
    to_z-of_z w64 _ (record { sfits = c.number.type_inv })
    ∙ c.number.ensures
    ∙ ap (λ l. get_or l c.args.k (pos 0)) (sym (L.plain_listed c.swept.result) ∙ c.swept.ensures)
    ∙ coefficient_at R.exact.d (R.total c.args.s) (L.total_ends c.args.s) c.args.k
