use Rattle.std.proofs.Common.{◌++◌, vec_items, ap, ◌∙◌}
use Rattle.chains.specs.Counts.{scaled}
use Rattle.edges.specs.Views.{chain_view, count_of}
use Rattle.edges.proofs.Gather.{handed_on, no_memory}
use Rattle.edges.proofs.inflating.put_subdivided.Goals as goal

pub returns-in_err-chain : goal.returns-in_err-chain
returns-in_err-chain g c = handed_on c.from_residual.result _ _ _ _ (λ k. k) c.in_err-chain.ensures.is c.from_residual.ensures.1

pub returns : goal.returns
returns g c =
    let E = g.R.Ring.exact in let v = g.R.Ring.value in
    let h = c.in_ok-chain.ensures.is in
    let s = ap (chain_view E v) c.as_slice.ensures.value ∙ h.0 in
    record { is = (c.in_ok-put_scaled.ensures ∙ ap (λ l. chain_view E v (vec_items c.args.out.now) ++ scaled (count_of c.args.x.now.back) l) s, h.1) }

pub returns-in_err-put_scaled : goal.returns-in_err-put_scaled
returns-in_err-put_scaled g c = no_memory c.from_residual-in_err-put_scaled.result _ _ c.from_residual-in_err-put_scaled.ensures.1
