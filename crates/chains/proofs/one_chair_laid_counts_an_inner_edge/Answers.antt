use Rattle.chains.proofs.one_chair_laid_counts_an_inner_edge.Goals as goal
use Rattle.chains.proofs.Examples.{one_chair_counts}

pub returns : goal.returns
returns c = one_chair_counts
