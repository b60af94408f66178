use Rattle.std.proofs.Common.{◌++◌, vec_items, sym, ap, ◌∙◌, subst}
use Rattle.chains.specs.Placements.{placed, placed_outline}
use Rattle.edges.specs.Views.{chain_view, placement_view}
use Rattle.edges.specs.Working.{KeptPlaced, KeptPlacedOutline}
use Rattle.edges.proofs.Gather.{made_weaker, handed_on}
use Rattle.edges.proofs.placing.put_outline.Goals as goal

pub returns-in_err-chain : goal.returns-in_err-chain
unfolding KeptPlacedOutline
returns-in_err-chain g c = handed_on c.from_residual.result _ _ _ _ (λ k. k.0) c.in_err-chain.ensures.is c.from_residual.ensures.1

pub returns : goal.returns
unfolding placed_outline KeptPlacedOutline
returns g c =
    let E = g.R.Ring.exact in let v = g.R.Ring.value in let p = placement_view E v c.args.p.now in
    let h = c.in_ok-chain.ensures.is in
    let s = ap (chain_view E v) c.as_slice.ensures.value ∙ h.0 in
    made_weaker c.put_placed.result _ _ _ _ (λ _ e. e ∙ ap (λ l. chain_view E v (vec_items c.args.out.now) ++ placed E p l) s)
    (λ k. (h.1, subst (KeptPlaced E p) s k)) (λ k. subst (KeptPlaced E p) (sym s) k.1) c.put_placed.ensures
