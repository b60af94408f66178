use Rattle.chains.proofs.only_the_right_outline_conserves.Goals as goal
use Rattle.chains.proofs.Conserving.{only_right}

pub returns : goal.returns
returns g c N A = only_right g.R.Ring.exact g.met.R.Ring.lawful N A
