use Rattle.exact.proofs.Sizes.{tenfold_sizes}
use Rattle.exact.proofs.tenfold_coefficients_grow_little.Goals as goal

pub returns : goal.returns
returns c = tenfold_sizes
