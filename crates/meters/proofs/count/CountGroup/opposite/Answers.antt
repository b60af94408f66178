use Rattle.std.proofs.Common.{ap, ◌∙◌, rules, w64, sym, FitsSigned}
use lib.IntN.{+ℤ_idl}
use Rattle.std.specs.Int.{int_wrapping_neg}
use Rattle.std.proofs.lemmas.Int.{wrapping_neg_is, to_z-of_z}
use Rattle.exact.specs.Residues.{residue}
use Rattle.exact.proofs.Totals.{residue_at, residue_neg}
use Rattle.meters.proofs.count.CountGroup.opposite.Goals as goal

pub returns : goal.returns
returns c =
    let a = c.args.self.at in
    let f : FitsSigned w64 a = search rules in
    let r : FitsSigned w64 c.wrapping_neg.result = search rules in
    ap residue (to_z-of_z w64 c.wrapping_neg.result r ∙ c.wrapping_neg.ensures ∙ ap (int_wrapping_neg w64) (to_z-of_z w64 a f) ∙ wrapping_neg_is w64 a f)
    ∙ residue_at (residue _) ∙ ap residue (sym (+ℤ_idl _)) ∙ residue_neg a
