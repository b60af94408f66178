use Rattle.std.proofs.Common.{sym, ◌∙◌, subst, ap₂}
use Rattle.chains.specs.Edges.{walk}
use Rattle.chains.specs.Placements.{outline}
use Rattle.edges.specs.Views.{book_view}
use Rattle.edges.specs.Working.{KeptWalk, KeptOutline}
use Rattle.edges.proofs.Gather.{made_weaker}
use Rattle.edges.proofs.walks.outline_of.Goals as goal

pub returns : goal.returns
unfolding outline KeptOutline
returns g c =
    let E = g.R.Ring.exact in
    let B = book_view E g.R.Ring.value c.args.book.now in
    let s = c.steps_of.ensures in
    made_weaker c.walk_from.result _ _ _ _ (λ _ e. e ∙ ap₂ (walk E B) s c.zero.ensures)
    (λ k. subst (λ l. KeptWalk E B l E.zero) s (subst (KeptWalk E B _) c.zero.ensures k))
    (λ k. subst (KeptWalk E B _) (sym c.zero.ensures) (subst (λ l. KeptWalk E B l E.zero) (sym s) k)) c.walk_from.ensures
