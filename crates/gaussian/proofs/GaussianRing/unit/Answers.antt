use Rattle.std.proofs.Common.{ap, ◌∙◌, arith}
use Rattle.exact.specs.Models.{gaussian}
use Rattle.exact.proofs.GaussianLaws.{gaussian_laws}
use Rattle.exact.proofs.Powers.{power_at}
use Rattle.gaussian.proofs.GaussianRing.unit.Goals as goal
use Rattle.gaussian.proofs.GaussianRing.unit.Goals.{in-0, in-1, in-2, in_default}

pub returns : goal.returns
returns c =
    elim c.match-k-rem4.branch [
      | in-0 w ↦ ap (λ z. gaussian.of z.0.at) w.result-is ∙ power_at gaussian gaussian_laws c.args.k 0 w.in-0.is
      | in-1 w ↦ ap (λ z. gaussian.of z.0.at) w.result-is ∙ power_at gaussian gaussian_laws c.args.k 1 w.in-1.is
      | in-2 w ↦ ap (λ z. gaussian.of z.0.at) w.result-is ∙ power_at gaussian gaussian_laws c.args.k 2 w.in-2.is
      | in_default w ↦ ap (λ z. gaussian.of z.0.at) w.result-is ∙ power_at gaussian gaussian_laws c.args.k 3 (omega arith)
    ]
