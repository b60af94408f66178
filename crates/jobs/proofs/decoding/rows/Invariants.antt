use Rattle.std.proofs.Common.{take, vec_items}
use Rattle.std.specs.Fn.{FnReturnsAt}
use Rattle.jobs.specs.RowLists.{Read}
use Rattle.jobs.proofs.decoding.rows.Given as goal

abbrev pub invariant-loop-row : goal.invariant-loop-row
invariant-loop-row g l = Read (λ row r. FnReturnsAt g.F.Fn l.read row r) (take l.row-index l.rows) (vec_items l.found)
