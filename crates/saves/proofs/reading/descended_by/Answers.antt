use Rattle.std.proofs.Common.{sym, ap, ◌∙◌}
use Rattle.calls.specs.Views.{cursor_view, cursor_at}
use Rattle.saves.specs.Records.{deeper}
use Rattle.saves.proofs.Descents.{step_on, step_off, step_end}
use Rattle.saves.proofs.reading.descended_by.Goals as goal

pub returns-in_err-cursor : goal.returns-in_err-cursor
returns-in_err-cursor g c =
    ap cursor_at c.from_residual.ensures
    ∙ sym (c.loop-taken.invariant ∙ step_off c.args.job.now.depth c.args.descents c.loop-taken._taken (cursor_view c.loop-taken.cursor) c.loop-taken-test.true c.in_err-cursor.ensures)

pub loop-taken-preserved : goal.loop-taken-preserved
loop-taken-preserved g c =
    c.loop-taken.invariant
    ∙ step_on c.args.job.now.depth c.args.descents c.loop-taken._taken (cursor_view c.loop-taken.cursor) c.loop-taken-test.true c.in_ok-cursor.ensures.0
    ∙ ap (deeper c.args.job.now.depth _) (sym c.in_ok-cursor.ensures.1)

pub returns : goal.returns
returns g c = sym (c.loop-taken.invariant ∙ step_end c.args.job.now.depth c.args.descents c.loop-taken._taken (cursor_view c.loop-taken.cursor) c.loop-taken-test.false)
