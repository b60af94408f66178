use Rattle.std.proofs.Common.{ap, ◌∙◌}
use Rattle.edges.specs.Views.{chain_view}
use Rattle.edges.proofs.Gather.{behind_none, handed_on}
use Rattle.edges.proofs.placing.outline_at.Goals as goal

pub returns-in_err-put_outline : goal.returns-in_err-put_outline
returns-in_err-put_outline g c = handed_on c.from_residual.result _ _ _ _ (λ k. k) c.in_err-put_outline.ensures.is c.from_residual.ensures.1

pub returns : goal.returns
returns g c =
    let h = c.in_ok-put_outline.ensures.is in
    record { is = (h.0 ∙ behind_none _ _ (ap (chain_view g.R.Ring.exact g.R.Ring.value) c.new-edges.ensures.items), h.1) }
