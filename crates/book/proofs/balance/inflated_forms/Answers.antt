use Rattle.std.proofs.Common.{map, sym, ap, ◌∙◌, subst}
use Rattle.chains.specs.Edges.{canonical}
use Rattle.chains.specs.Inflation.{inflate}
use Rattle.edges.specs.Views.{chain_view, book_view}
use Rattle.edges.specs.Working.{KeptInflated, KeptForms}
use Rattle.edges.proofs.Gather.{made_weaker, handed_on}
use Rattle.book.proofs.balance.inflated_forms.Goals as goal

pub returns-in_err-outline : goal.returns-in_err-outline
returns-in_err-outline g c = handed_on c.from_residual.result _ _ _ _ (λ k. k.0) c.in_err-outline.ensures.is c.from_residual.ensures.1

pub returns-in_err-inflated : goal.returns-in_err-inflated
returns-in_err-inflated g c =
    let E = g.R.Ring.exact in let v = g.R.Ring.value in
    let B = book_view E v c.args.book.now in
    let s = ap (chain_view E v) c.as_slice.ensures.value ∙ c.in_ok-outline.ensures.is.0 in
    handed_on c.from_residual-in_err-inflated.result _ _ _ _ (λ k. subst (KeptInflated E B) (sym s) k.1) c.in_err-inflated.ensures.is c.from_residual-in_err-inflated.ensures.1

pub returns : goal.returns
returns g c =
    let E = g.R.Ring.exact in let v = g.R.Ring.value in
    let B = book_view E v c.args.book.now in
    let o = c.in_ok-outline.ensures.is in
    let i = c.in_ok-inflated.ensures.is in
    let s = ap (chain_view E v) c.as_slice.ensures.value ∙ o.0 in
    let w = ap (chain_view E v) c.as_slice-2.ensures.value ∙ i.0 ∙ ap (inflate E B) s in
    made_weaker c.canonical_chain.result _ _ _ _ (λ _ e. e ∙ ap (map (canonical E B)) w)
    (λ k. (o.1, subst (KeptInflated E B) s i.1, subst (KeptForms E B) w k)) (λ k. subst (KeptForms E B) (sym w) k.2) c.canonical_chain.ensures
