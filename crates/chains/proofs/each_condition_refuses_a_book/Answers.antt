use Rattle.chains.proofs.each_condition_refuses_a_book.Goals as goal
use Rattle.chains.proofs.Examples.{each_refuses}

pub returns : goal.returns
returns c = each_refuses
