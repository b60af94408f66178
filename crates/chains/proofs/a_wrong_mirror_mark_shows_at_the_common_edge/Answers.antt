use Rattle.chains.proofs.a_wrong_mirror_mark_shows_at_the_common_edge.Goals as goal
use Rattle.chains.proofs.Examples.{wrong_mark_shows}

pub returns : goal.returns
returns c = wrong_mark_shows
