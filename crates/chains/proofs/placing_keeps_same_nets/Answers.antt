use Rattle.chains.proofs.placing_keeps_same_nets.Goals as goal
use Rattle.chains.proofs.Lookups.{real_everywhere}
use Rattle.chains.proofs.Placing.{placed_same}

pub returns : goal.returns
returns g c B lengths =
    let E = g.R.Ring.exact in
    let L = g.met.R.Ring.lawful in
    placed_same E L B (real_everywhere E L B lengths)
