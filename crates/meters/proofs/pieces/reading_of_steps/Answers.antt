use Rattle.std.proofs.Common.{false, refl}
use Rattle.job_rows.specs.declared.Step.{Step}
use Rattle.edges.specs.Views.{placement_view, book_view}
use Rattle.nodes.proofs.Testing.{off_at}
use Rattle.meters.proofs.Rounds.{starts, stays_there, goes_on, all_kept, all_read}
use Rattle.meters.proofs.pieces.reading_of_steps.Goals as goal

none : Step
none = record { label = 0; forward = false; direction = 0 }

pub loop-s-init : goal.loop-s-init
loop-s-init g c =
    let E = g.R.Ring.exact in let v = g.R.Ring.value in let B = book_view E v c.args.book.now in
    starts E B (placement_view E v c.args.p.now) c.args.steps.now v g.M.Meter.group (g.M.Meter.reads c.args.meter.now E v B) g.met.M.Meter.lawful g.met.R.Ring.lawful
    c.zero.result c.args.p.now.place (g.M.Meter.worth c.zero-sum.result) c.zero.ensures refl (g.met.M.Meter.tied.zero c.zero-sum.result c.zero-sum.ensures)

pub loop-s-preserved : goal.loop-s-preserved
unfolding none
loop-s-preserved g c =
    let E = g.R.Ring.exact in let v = g.R.Ring.value in let B = book_view E v c.args.book.now in
    let w = g.M.Meter.worth in
    let at = c.loop-s.at in
    let next = c.in_ok-next.next in
    let k = c.in_ok-next.ensures.is in
    goes_on E B (placement_view E v c.args.p.now) c.args.steps.now v g.M.Meter.group (g.M.Meter.reads c.args.meter.now E v B) g.met.M.Meter.lawful
    c.loop-s.s-index at.own at.placed (w c.loop-s.sum) c.loop-s.invariant none c.loop-s-test.true next.own next.placed (w c.reading_of_step-value.result) (w c.sum-sum.result)
    k.0.0 k.0.1 k.1 (g.met.M.Meter.tied.sum c.loop-s.sum c.reading_of_step-value.result c.sum-sum.result c.sum-sum.ensures) c.reading_of_step-value.ensures

pub returns : goal.returns
returns g c =
    let E = g.R.Ring.exact in let v = g.R.Ring.value in let B = book_view E v c.args.book.now in
    let p = placement_view E v c.args.p.now in
    let r = g.M.Meter.reads c.args.meter.now E v B in
    let a = g.M.Meter.worth c.loop-s.sum in
    let at = c.loop-s.at in
    record {
      is = (
        all_read E B p c.args.steps.now v g.M.Meter.group r g.met.M.Meter.lawful c.loop-s.s-index at.own at.placed a c.loop-s.invariant c.loop-s-test.false,
        all_kept E B p c.args.steps.now v g.M.Meter.group r g.met.M.Meter.lawful c.loop-s.s-index at.own at.placed a c.loop-s.invariant c.loop-s-test.false,
      );
    }

pub returns-in_err-next : goal.returns-in_err-next
unfolding none
returns-in_err-next g c =
    let E = g.R.Ring.exact in let v = g.R.Ring.value in let B = book_view E v c.args.book.now in
    let at = c.loop-s.at in
    off_at c.from_residual.result _ _ _ _ c.from_residual.ensures.1
    (stays_there E B (placement_view E v c.args.p.now) c.args.steps.now v g.M.Meter.group (g.M.Meter.reads c.args.meter.now E v B) g.met.M.Meter.lawful
    c.loop-s.s-index at.own at.placed (g.M.Meter.worth c.loop-s.sum) c.loop-s.invariant none c.loop-s-test.true) c.in_err-next.ensures.is
