use Rattle.std.proofs.Common.{map, sym, ap, ◌∙◌, subst}
use Rattle.std.specs.List.{AllByRecursion}
use Rattle.chains.specs.Edges.{canonical}
use Rattle.chains.specs.Placements.{outlines}
use Rattle.edges.specs.Views.{chain_view, book_view}
use Rattle.edges.specs.Working.{KeptPlacedOutline, KeptForms}
use Rattle.edges.proofs.Gather.{made_weaker, handed_on}
use Rattle.book.proofs.balance.children_forms.Goals as goal

pub returns-in_err-chain : goal.returns-in_err-chain
returns-in_err-chain g c =
    let E = g.R.Ring.exact in let v = g.R.Ring.value in
    let B = book_view E v c.args.book.now in
    handed_on c.from_residual.result _ _ _ _ (λ k. subst (AllByRecursion (KeptPlacedOutline E B)) (sym c.children_of.ensures) k.0) c.in_err-chain.ensures.is c.from_residual.ensures.1

pub returns : goal.returns
returns g c =
    let E = g.R.Ring.exact in let v = g.R.Ring.value in
    let B = book_view E v c.args.book.now in
    let h = c.in_ok-chain.ensures.is in
    let s = ap (chain_view E v) c.as_slice.ensures.value ∙ h.0 ∙ ap (outlines E B) c.children_of.ensures in
    made_weaker c.canonical_chain.result _ _ _ _ (λ _ e. e ∙ ap (map (canonical E B)) s)
    (λ k. (subst (AllByRecursion (KeptPlacedOutline E B)) c.children_of.ensures h.1, subst (KeptForms E B) s k)) (λ k. subst (KeptForms E B) (sym s) k.1) c.canonical_chain.ensures
