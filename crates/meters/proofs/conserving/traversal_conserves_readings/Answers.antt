use Rattle.meters.proofs.Metered.{reads_conserved}
use Rattle.meters.proofs.conserving.traversal_conserves_readings.Goals as goal

pub returns : goal.returns
returns g c = reads_conserved g.R.Ring.exact g.met.R.Ring.lawful g.M.Meter.group g.met.M.Meter.lawful (g.M.Meter.reads c.args.meter.now g.R.Ring.exact g.R.Ring.value) (g.met.M.Meter.reads_edges c.args.meter.now)
