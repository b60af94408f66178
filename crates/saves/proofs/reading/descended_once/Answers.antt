use Rattle.std.proofs.Common.{sym, ◌∙◌, arith}
use Rattle.saves.proofs.Pieces.{gone_down, shallow}
use Rattle.saves.proofs.reading.descended_once.Goals as goal

pub returns : goal.returns
returns g c = gone_down c.args.job.now.depth c.args.from.now c.descended.result (sym c.level_of.ensures.counted ∙ c.level_of.ensures.held) (omega (arith, c.level_of.ensures.counted)) (shallow c.args.job.now) c.descended.ensures
