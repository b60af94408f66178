use Rattle.chains.proofs.children_balance_their_parent.Goals as goal
use Rattle.chains.proofs.Balancing.{family_balances}

pub returns : goal.returns
returns g c B A p = family_balances g.R.Ring.exact g.met.R.Ring.lawful B A p
