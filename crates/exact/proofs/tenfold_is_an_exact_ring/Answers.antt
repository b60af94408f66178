use Rattle.exact.proofs.TenfoldLaws.{tenfold_laws}
use Rattle.exact.proofs.tenfold_is_an_exact_ring.Goals as goal

pub returns : goal.returns
returns c = tenfold_laws
