use Rattle.std.proofs.Common.{sym}
use Rattle.lines.proofs.Cutting.{cut_at, ended}
use Rattle.lines.proofs.next_line.Goals as goal

pub returns-in_err-end : goal.returns-in_err-end
returns-in_err-end c = rw c.from_residual.ensures (λ line rest e. ended _ line rest e (sym c.in_err-end.ensures))

pub returns : goal.returns
returns c = cut_at _ _ (sym c.in_ok-end.ensures)
