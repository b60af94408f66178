use Rattle.std.proofs.Common.{◌∙◌}
use Rattle.edges.proofs.Turning.{difference_is}
use Rattle.edges.proofs.turns.difference_of_turns.Goals as goal

pub returns : goal.returns
returns g c = difference_is g.R.Ring.exact _ _ _ _ _ c.reduced.ensures.is c.reduced-2.ensures.is _ (c.N.ensures ∙ g.met.R.Ring.counts_turns) c.reduced-3.ensures.is
