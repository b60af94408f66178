use Rattle.std.proofs.Common.{map, sym, ap, ◌∙◌, subst, ap₂}
use Rattle.chains.specs.Edges.{walk}
use Rattle.chains.specs.Inflation.{stepped, subdivided}
use Rattle.edges.specs.Views.{book_view}
use Rattle.job_rows.specs.Shapes.{step_of}
use Rattle.edges.specs.Working.{KeptWalk, KeptSubdivided}
use Rattle.edges.proofs.Gather.{made_weaker, no_memory, off_plane}
use Rattle.edges.proofs.inflating.subdivide.Goals as goal

pub returns-in_err-from : goal.returns-in_err-from
unfolding KeptSubdivided book_view
returns-in_err-from g c = off_plane c.from_residual.result _ _ _ _ c.from_residual.ensures.1 (λ k. k.0) c.in_err-from.ensures.is

pub returns-in_err-steps : goal.returns-in_err-steps
returns-in_err-steps g c = no_memory c.from_residual-in_err-steps.result _ _ c.from_residual-in_err-steps.ensures.1

pub returns : goal.returns
unfolding KeptSubdivided subdivided book_view
returns g c =
    let E = g.R.Ring.exact in let v = g.R.Ring.value in
    let B = book_view E v c.args.book.now in
    let f = c.in_ok-from.ensures.is in
    let z = E.mul (v c.args.book.now.factor) (v c.args.x.now.start) in
    let s = ap (map step_of) c.as_slice.ensures.value ∙ c.in_ok-steps.ensures ∙ ap (stepped c.args.x.now.direction) c.parts_of.ensures in
    made_weaker c.walk_from.result _ _ _ _ (λ _ e. e ∙ ap₂ (walk E B) s f.0)
    (λ k. (f.1, subst (λ l. KeptWalk E B l z) s (subst (KeptWalk E B _) f.0 k)))
    (λ k. subst (KeptWalk E B _) (sym f.0) (subst (λ l. KeptWalk E B l z) (sym s) k.1)) c.walk_from.ensures
