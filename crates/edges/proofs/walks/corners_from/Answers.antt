use Rattle.std.proofs.Common.{◌+◌, false, ◌++◌, map, drop, vec_items, sym, ap, ◌∙◌, subst, append-nil}
use Rattle.chains.specs.Edges.{corners}
use Rattle.job_rows.specs.declared.Step.{Step}
use Rattle.edges.specs.Views.{book_view}
use Rattle.job_rows.specs.Shapes.{step_of}
use Rattle.edges.specs.Working.{KeptWalk}
use Rattle.edges.proofs.Gather.{pushed, off_plane, no_memory}
use Rattle.edges.proofs.Walking.{corners_more, corners_none, kept_more, kept_back, kept_none}
use Rattle.edges.proofs.walks.corners_from.Goals as goal

none : Step
none = record { label = 0; forward = false; direction = 0 }

pub loop-s-init : goal.loop-s-init
loop-s-init g c = (rw c.new-out.ensures.items, λ k. k, λ k. k)

pub loop-s-preserved : goal.loop-s-preserved
unfolding none
loop-s-preserved g c =
    let E = g.R.Ring.exact in
    let v = g.R.Ring.value in
    let B = book_view E v c.args.book.now in
    let steps = c.args.steps.now in
    let i = c.loop-s.s-index in
    let q = v c.loop-s.q in
    let h = c.in_ok-q.ensures.is in
    let rest = map step_of (drop (i + 1) steps) in (
      ap (λ z. map v (vec_items c.push.new.self) ++ corners E B rest z) h.0
          ∙ pushed v (vec_items c.loop-s.out) (vec_items c.push.new.self) _ _ _ _ c.in_ok-push.ensures.items h.0
          (ap (λ l. map v (vec_items c.loop-s.out) ++ l) (sym (corners_more E B steps i none q c.loop-s-test.true)) ∙ c.loop-s.invariant.0),
      λ k. subst (KeptWalk E B rest) (sym h.0) (kept_more E B steps i none q c.loop-s-test.true (c.loop-s.invariant.1 k)).1,
      λ k. c.loop-s.invariant.2 (kept_back E B steps i none q c.loop-s-test.true h.1 (subst (KeptWalk E B rest) h.0 k)),
    )

pub returns : goal.returns
returns g c =
    let E = g.R.Ring.exact in
    let v = g.R.Ring.value in
    let B = book_view E v c.args.book.now in
    record {
      is = (
        sym (append-nil _) ∙ ap (λ l. map v (vec_items c.loop-s.out) ++ l) (sym (corners_none E B c.args.steps.now c.loop-s.s-index (v c.loop-s.q) c.loop-s-test.false)) ∙ c.loop-s.invariant.0,
        c.loop-s.invariant.2 (kept_none E B c.args.steps.now c.loop-s.s-index (v c.loop-s.q) c.loop-s-test.false),
      );
    }

pub returns-in_err-q : goal.returns-in_err-q
unfolding none
returns-in_err-q g c =
    let E = g.R.Ring.exact in
    let B = book_view E g.R.Ring.value c.args.book.now in
    off_plane c.from_residual.result _ _ _ _ c.from_residual.ensures.1
    (λ k. (kept_more E B c.args.steps.now c.loop-s.s-index none (g.R.Ring.value c.loop-s.q) c.loop-s-test.true (c.loop-s.invariant.1 k)).0) c.in_err-q.ensures.is

pub returns-in_err-push : goal.returns-in_err-push
returns-in_err-push g c = no_memory c.from_residual-in_err-push.result _ _ c.from_residual-in_err-push.ensures.1
