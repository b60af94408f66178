use Rattle.std.proofs.Common.{length, vec_items}
use Rattle.lines.proofs.Sequence.{Upto}
use Rattle.lines.proofs.numbers.Given as goal

abbrev pub invariant-loop-rest : goal.invariant-loop-rest
invariant-loop-rest l = Upto l.s (vec_items l.found) l.rest

abbrev pub decreases-loop-rest : goal.decreases-loop-rest
decreases-loop-rest l = length l.rest
