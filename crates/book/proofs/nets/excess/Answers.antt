use Rattle.std.proofs.Common.{arith}
use Rattle.std.proofs.lemmas.Int.{ints}
use Rattle.book.specs.Differences.{gap}
use Rattle.book.proofs.nets.excess.Goals as goal

pub overflow_sub-result : goal.overflow_sub-result
overflow_sub-result g c = omega (arith, ints)

pub returns : goal.returns
unfolding gap
returns g c = omega (arith, ints)
