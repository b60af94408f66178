use Rattle.edges.proofs.Turning.{sum_is}
use Rattle.edges.proofs.turns.sum_of_turns.Goals as goal

pub returns : goal.returns
returns g c = sum_is g.R.Ring.exact _ _ _ _ _ c.reduced.ensures.is c.reduced-2.ensures.is c.reduced-3.ensures.is
