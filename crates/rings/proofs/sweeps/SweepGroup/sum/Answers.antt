use Rattle.exact.proofs.Totals.{total_sum}
use Rattle.rings.proofs.sweeps.SweepGroup.sum.Goals as goal

pub returns : goal.returns
returns g c = total_sum c.args.self.row.at c.args.other.row.at _ c.plus.ensures.is
