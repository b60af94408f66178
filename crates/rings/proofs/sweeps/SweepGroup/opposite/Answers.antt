use Rattle.exact.proofs.Totals.{total_opposite}
use Rattle.rings.proofs.sweeps.SweepGroup.opposite.Goals as goal

pub returns : goal.returns
returns g c = total_opposite _ c.args.self.row.at _ c.zero.ensures c.minus.ensures.is
