use Rattle.exact.proofs.Sizes.{gaussian_sizes}
use Rattle.exact.proofs.gaussian_coefficients_grow_little.Goals as goal

pub returns : goal.returns
returns c = gaussian_sizes
