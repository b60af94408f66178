use Rattle.std.proofs.Common.{rules}
use Rattle.std.proofs.lemmas.Iterator.{cases_from_all, YieldsList-from_slice}
use Rattle.exact.specs.Sizes.{Between}
use Rattle.rings.proofs.Lists.{tested_row}
use Rattle.rings.proofs.rows.RowCoefficients.is_within.Goals as goal

pub returns : goal.returns
returns g c =
    let s = c.args.size in
    let h = tested_row s c.args.self.at c.all.result (cases_from_all _ _ _ (Between s) (λ x. Between s x → ⊥) c.all.ensures.ran (YieldsList-from_slice c.args.self.at cc) (λ x q k. search rules) (λ x q k. search rules)) in
    record { yes = h.0; no = h.1 }
