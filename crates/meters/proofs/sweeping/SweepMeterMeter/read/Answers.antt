use Rattle.std.proofs.Common.{◌∙◌}
use Rattle.meters.proofs.Swept.{swept_is}
use Rattle.meters.proofs.sweeping.SweepMeterMeter.read.Goals as goal

pub returns : goal.returns
returns g c B shows = c.sweep.ensures ∙ swept_is g.R.Ring.exact B g.R.Ring.value c.args.span.now shows
