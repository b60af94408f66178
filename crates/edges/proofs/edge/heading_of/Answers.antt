use Rattle.std.proofs.Common.{rules}
use Rattle.chains.specs.Placements.{heading}
use Rattle.edges.proofs.edge.heading_of.Goals as goal

pub returns-then-p : goal.returns-then-p
unfolding heading
returns-then-p g c = rw c.if-p.true (search rules)

pub returns-else-p : goal.returns-else-p
unfolding heading
returns-else-p g c = rw c.if-p.false (search rules)
