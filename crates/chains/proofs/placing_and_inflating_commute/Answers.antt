use Rattle.chains.proofs.placing_and_inflating_commute.Goals as goal
use Rattle.chains.proofs.Lookups.{real_everywhere}
use Rattle.chains.proofs.Placing.{inflate_placed}

pub returns : goal.returns
returns g c B factor lengths =
    let E = g.R.Ring.exact in
    let L = g.met.R.Ring.lawful in
    inflate_placed E L B (real_everywhere E L B lengths) factor
