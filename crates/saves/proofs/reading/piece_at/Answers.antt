use Rattle.std.proofs.Common.{Some, sym, ap, ◌∙◌}
use Rattle.calls.specs.Views.{cursor_view}
use Rattle.saves.proofs.Pieces.{piece_off, piece_on, none_laid}
use Rattle.saves.proofs.reading.piece_at.Goals as goal

pub returns-then-level_of-job-clause-answer : goal.returns-then-level_of-job-clause-answer
returns-then-level_of-job-clause-answer g c s =
    sym (piece_off g.P.R.Ring.exact (g.P.Placer.plan c.args.placer.now) (cursor_view c.args.at.now) c.job.result.now.depth (ap (λ M. M.depth) c.job.ensures) (λ e. c.if-level_of-job.true (c.level_of.ensures.counted ∙ e)))

pub returns-in-Ok-clause-answer : goal.returns-in-Ok-clause-answer
returns-in-Ok-clause-answer g c s =
    ap Some c.plain_piece.ensures
    ∙ piece_on g.P.R.Ring.exact (g.P.Placer.plan c.args.placer.now) (cursor_view c.args.at.now) c.job.result.now.depth _ (ap (λ M. M.depth) c.job.ensures) (sym c.level_of.ensures.counted ∙ c.if-level_of-job.false) (c.in-Ok.ensures.answer s)

pub returns-in-Err-clause-answer : goal.returns-in-Err-clause-answer
returns-in-Err-clause-answer g c s =
    sym (none_laid g.P.R.Ring.exact (g.P.Placer.plan c.args.placer.now) c.in-Err.field-0)
    ∙ piece_on g.P.R.Ring.exact (g.P.Placer.plan c.args.placer.now) (cursor_view c.args.at.now) c.job.result.now.depth _ (ap (λ M. M.depth) c.job.ensures) (sym c.level_of.ensures.counted ∙ c.if-level_of-job.false) (c.in-Err.ensures.answer s)
