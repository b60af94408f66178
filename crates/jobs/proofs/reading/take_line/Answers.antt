use Rattle.std.proofs.Common.{vec_items}
use Rattle.std.proofs.lemmas.Result.{err_from_is_err_and}
use Rattle.lines.specs.Letters.{letter}
use Rattle.jobs.specs.Drafts.{front}
use Rattle.jobs.proofs.Halts.{halted_unadded, halted_unread}
use Rattle.jobs.proofs.reading.take_line.Goals as goal

pub returns-in_err-kind : goal.returns-in_err-kind
returns-in_err-kind c =
    let p = err_from_is_err_and c.from_residual.result c.from_residual.ensures.1 in
    rw (p.1, p.2) (λ line. halted_unread _ _ _ line c.requires c.in_err-kind.ensures)

pub returns-in_err-add_line : goal.returns-in_err-add_line
returns-in_err-add_line c =
    let p = err_from_is_err_and c.from_residual-in_err-add_line.result c.from_residual-in_err-add_line.ensures.1 in
    rw (p.1, p.2) (λ line. halted_unadded _ _ (front c.add_line.new.draft) _ (letter c.in_ok-kind.kind) (vec_items c.in_ok-kind.found) _ _ line c.in_ok-kind.ensures c.in_err-add_line.ensures c.as_slice.ensures.value)
