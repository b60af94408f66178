use Rattle.exact.proofs.Totals.{totals_laws}
use Rattle.exact.proofs.totals_form_a_commutative_group.Goals as goal

pub returns : goal.returns
returns c = totals_laws
