use Rattle.chains.proofs.inflation_keeps_same_nets.Goals as goal
use Rattle.chains.proofs.Lookups.{adds_everywhere, palindrome_everywhere}
use Rattle.chains.proofs.Inflating.{inflate_same}

pub returns : goal.returns
returns g c B fits =
    let E = g.R.Ring.exact in
    let L = g.met.R.Ring.lawful in
    inflate_same E L B (adds_everywhere E L B fits) (palindrome_everywhere E L B fits)
