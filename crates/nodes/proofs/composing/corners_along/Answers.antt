use Rattle.std.proofs.Common.{◌+◌, false, ◌&&◌, map, drop, sym, ◌∙◌, ap₂}
use Rattle.std.proofs.lemmas.Bool.{and_parts}
use Rattle.job_rows.specs.declared.Step.{Step}
use Rattle.job_rows.specs.Shapes.{step_of}
use Rattle.edges.specs.Views.{placement_view, book_view}
use Rattle.nodes.specs.OnPlane.{kept_corners_from}
use Rattle.nodes.proofs.Testing.{off_at}
use Rattle.nodes.proofs.Walking.{corners_more, corners_none}
use Rattle.nodes.proofs.composing.corners_along.Goals as goal

none : Step
none = record { label = 0; forward = false; direction = 0 }

pub loop-s-init : goal.loop-s-init
loop-s-init g c = rw c.zero-q.ensures

pub returns-in_err-q : goal.returns-in_err-q
unfolding none
returns-in_err-q g c =
    let E = g.R.Ring.exact in let v = g.R.Ring.value in let B = book_view E v c.args.book.now in
    let p = placement_view E v c.args.p.now in
    let step = c.loop-s.invariant ∙ corners_more E B p c.args.steps.now c.loop-s.s-index none (v c.loop-s.q) c.loop-s-test.true in
    off_at c.from_residual.result _ _ _ _ c.from_residual.ensures.1 (λ k. (and_parts _ _ (sym step ∙ k)).0) c.in_err-q.ensures.is

pub loop-s-preserved : goal.loop-s-preserved
unfolding none
loop-s-preserved g c =
    let E = g.R.Ring.exact in let v = g.R.Ring.value in let B = book_view E v c.args.book.now in
    let p = placement_view E v c.args.p.now in
    let rest = map step_of (drop (c.loop-s.s-index + 1) c.args.steps.now) in
    let h = c.in_ok-q.ensures.is in
    c.loop-s.invariant ∙ corners_more E B p c.args.steps.now c.loop-s.s-index none (v c.loop-s.q) c.loop-s-test.true
    ∙ ap₂ (λ x z. x && kept_corners_from E B p rest z) h.1 (sym h.0)

pub returns : goal.returns
returns g c =
    let E = g.R.Ring.exact in let v = g.R.Ring.value in let B = book_view E v c.args.book.now in
    record { is = (tt, c.loop-s.invariant ∙ corners_none E B (placement_view E v c.args.p.now) c.args.steps.now c.loop-s.s-index (v c.loop-s.q) c.loop-s-test.false) }
