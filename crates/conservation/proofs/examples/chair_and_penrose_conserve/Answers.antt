use Rattle.conservation.proofs.Applied.{two_books}
use Rattle.conservation.proofs.examples.chair_and_penrose_conserve.Goals as goal

pub returns : goal.returns
returns c = two_books
