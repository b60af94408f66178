use Rattle.std.proofs.Common.{length}
use Rattle.jobs.specs.Drafts.{front}
use Rattle.jobs.proofs.Halts.{Sofar}
use Rattle.jobs.proofs.reading.read_lines.Given as goal

abbrev pub invariant-loop-rest : goal.invariant-loop-rest
invariant-loop-rest l = Sofar l.text (front l.draft) l.rest l.line

abbrev pub decreases-loop-rest : goal.decreases-loop-rest
decreases-loop-rest l = length l.rest
