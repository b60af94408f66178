use Rattle.edges.proofs.Turning.{opposed_is}
use Rattle.edges.proofs.turns.opposed.Goals as goal

pub returns : goal.returns
returns g c = opposed_is g.R.Ring.exact _ _ _ _ c.reduced.ensures.is c.half_turn.ensures.is c.reduced-2.ensures.is
