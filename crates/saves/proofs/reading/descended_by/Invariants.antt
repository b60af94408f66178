use Rattle.std.proofs.Common.{◌≡◌, ◌-◌}
use Rattle.calls.specs.Views.{cursor_view}
use Rattle.saves.specs.Records.{deeper}
use Rattle.saves.proofs.reading.descended_by.Given as goal

abbrev pub invariant-loop-taken : goal.invariant-loop-taken
invariant-loop-taken g l = deeper l.job.depth l.descents (cursor_view l.fn.from) ≡ deeper l.job.depth (l.descents - l._taken) (cursor_view l.cursor)
