use Rattle.exact.proofs.Quartics.{quartic_ring}
use Rattle.exact.proofs.quartic_reductions_give_rings.Goals as goal

pub returns : goal.returns
returns c = quartic_ring
