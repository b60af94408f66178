use Rattle.std.proofs.Common.{sym, ◌∙◌}
use Rattle.book.proofs.Tallying.{edges_equal}
use Rattle.book.proofs.nets.share.Goals as goal

pub returns-in-true-true : goal.returns-in-true-true
returns-in-true-true g c = rw (edges_equal g.R.Ring.exact g.R.Ring.value g.R.PartialEq.eq g.met.R.Ring.decided c.args.x.now.edge c.args.e.now ∙ sym c.in-true-true.ensures, c.in-true-true.is-1)

pub returns-in-true-false : goal.returns-in-true-false
returns-in-true-false g c = rw (edges_equal g.R.Ring.exact g.R.Ring.value g.R.PartialEq.eq g.met.R.Ring.decided c.args.x.now.edge c.args.e.now ∙ sym c.in-true-false.ensures, c.in-true-false.is-1)

pub returns-in-false-default : goal.returns-in-false-default
returns-in-false-default g c = rw (edges_equal g.R.Ring.exact g.R.Ring.value g.R.PartialEq.eq g.met.R.Ring.decided c.args.x.now.edge c.args.e.now ∙ sym c.in-false-default.ensures)
