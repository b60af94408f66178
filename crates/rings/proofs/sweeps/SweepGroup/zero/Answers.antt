use Rattle.exact.proofs.Totals.{total_zero}
use Rattle.rings.proofs.sweeps.SweepGroup.zero.Goals as goal

pub returns : goal.returns
returns g c = total_zero _ c.zero.ensures
