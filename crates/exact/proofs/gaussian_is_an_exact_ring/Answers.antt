use Rattle.exact.proofs.GaussianLaws.{gaussian_laws}
use Rattle.exact.proofs.gaussian_is_an_exact_ring.Goals as goal

pub returns : goal.returns
returns c = gaussian_laws
