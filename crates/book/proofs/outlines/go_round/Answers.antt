use Rattle.std.proofs.Common.{false, ap, ◌∙◌}
use Rattle.exact.specs.Residues.{totals}
use Rattle.job_rows.specs.declared.Step.{Step}
use Rattle.edges.specs.Views.{book_view}
use Rattle.book.proofs.Tests.{broke_off}
use Rattle.book.proofs.Rounds.{starts, goes_on, stops_here, all_round}
use Rattle.book.proofs.outlines.go_round.Goals as goal

none : Step
none = record { label = 0; forward = false; direction = 0 }

pub loop-s-init : goal.loop-s-init
loop-s-init g c =
    let E = g.R.Ring.exact in
    starts E (book_view E g.R.Ring.value c.args.book.now) c.args.steps.now g.met.R.Ring.lawful _ _ c.zero-end.ensures (g.met.R.Ring.tied.zero _ c.zero-swept.ensures)

pub loop-s-preserved : goal.loop-s-preserved
unfolding none
loop-s-preserved g c =
    let E = g.R.Ring.exact in
    let h = c.in_ok-next.ensures.is in
    goes_on E (book_view E g.R.Ring.value c.args.book.now) c.args.steps.now g.met.R.Ring.lawful c.loop-s.s-index none _ _ _ _ c.loop-s-test.true h.0 c.loop-s.invariant h.1
    (g.met.R.Ring.tied.sum _ _ _ c.sum-swept.ensures ∙ ap (totals.sum (g.R.Ring.total c.loop-s.swept)) c.sweep.ensures) (g.met.R.Ring.sweeps_small c.loop-s.end c.in_ok-next.next)

pub returns : goal.returns
returns g c =
    let E = g.R.Ring.exact in
    record { is = all_round E (book_view E g.R.Ring.value c.args.book.now) c.args.steps.now g.met.R.Ring.lawful c.loop-s.s-index _ _ c.loop-s-test.false c.loop-s.invariant }

pub returns-in_err-next : goal.returns-in_err-next
unfolding none
returns-in_err-next g c =
    let E = g.R.Ring.exact in
    broke_off c.from_residual.result _ _ _ _ c.from_residual.ensures.1
    (stops_here E (book_view E g.R.Ring.value c.args.book.now) c.args.steps.now g.met.R.Ring.lawful c.loop-s.s-index none _ _ c.loop-s-test.true c.loop-s.invariant) c.in_err-next.ensures.is
