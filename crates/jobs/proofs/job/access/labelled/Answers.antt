use Rattle.std.proofs.Common.{◌≡◌, [], vec_items, sym, refl, ◌∙◌, inl, inr, ⊎_elim, rules}
use Rattle.jobs.proofs.Labelling.{join_start, next_short, join_more, join_all}
use Rattle.jobs.proofs.job.access.labelled.Goals as goal

pub loop-head-init : goal.loop-head-init
loop-head-init c =
    let n : vec_items c.new-labels.result ≡ [] = search rules in
    let h : c.into_iter-head-iterator.result.a.rest.items ≡ vec_items c.args.heads = search rules in
    let v : c.into_iter-head-iterator.result.b.rest.items ≡ vec_items c.args.subdivisions = search rules in
    join_start _ _ _ _ _ n h v c.requires.0 c.requires.1

pub invariant_of-push : goal.invariant_of-push
invariant_of-push c = let l = next_short _ _ _ _ _ _ c.loop-head.invariant c.in-Some.ensures.steps.1.0 in record { short = search rules }

pub loop-head-preserved : goal.loop-head-preserved
loop-head-preserved c = let s = c.in-Some.ensures.steps in join_more _ _ _ _ _ c.in-Some.head _ _ c.in-Some.subdivision _ c.loop-head.invariant s.0.0 s.1.0 c.in_ok-push.ensures.items refl

pub returns : goal.returns
returns c =
    let a = c.loop-head.head-iterator.a.rest.ok.0 in
    let b = c.loop-head.head-iterator.b.rest.ok.0 in
    join_all _ _ _ _ c.loop-head.invariant (⊎_elim (λ s. inl (sym a ∙ s.1.0)) (λ s. inr (sym b ∙ s.1.0)) c.in-None.ensures.steps)
