use Rattle.std.proofs.Common.{sym, refl, ◌∙◌}
use Rattle.edges.specs.Views.{book_view}
use Rattle.job_rows.specs.Shapes.{step_of}
use Rattle.edges.proofs.Entries.{entry_same, goes_forward, goes_back}
use Rattle.edges.proofs.edge.step_from.Goals as goal

pub returns-then-s : goal.returns-then-s
returns-then-s g c =
    let E = g.R.Ring.exact in
    let k = c.in_ok-end.ensures.is in
    record { is = ((entry_same E _ _ _ _ _ _ _ c.reduced.ensures.is refl refl ∙ sym (goes_forward E (book_view E g.R.Ring.value c.args.book.now) (step_of c.args.s) _ c.if-s.true), k.0), k.1) }

pub returns-else-s : goal.returns-else-s
returns-else-s g c =
    let E = g.R.Ring.exact in
    let k = c.in_ok-end.ensures.is in
    record { is = ((entry_same E _ _ _ _ _ _ _ c.opposed.ensures k.0 refl ∙ sym (goes_back E (book_view E g.R.Ring.value c.args.book.now) (step_of c.args.s) _ c.if-s.false), k.0), k.1) }
