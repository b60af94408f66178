use Rattle.std.proofs.Common.{ap, ◌∙◌, rules, w64, FitsSigned}
use Rattle.std.proofs.lemmas.Int.{wrapping_add_is}
use Rattle.exact.specs.Residues.{residue}
use Rattle.exact.proofs.Totals.{residue_at, residue_add}
use Rattle.meters.proofs.count.CountGroup.sum.Goals as goal

pub returns : goal.returns
returns c =
    let a = c.args.self.at in
    let b = c.args.other.at in
    let f : FitsSigned w64 a = search rules in
    let h : FitsSigned w64 b = search rules in
    ap residue (wrapping_add_is w64 a b f h) ∙ residue_at (residue _) ∙ residue_add a b
