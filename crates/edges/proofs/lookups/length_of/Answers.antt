use Rattle.std.proofs.Common.{sym, ap, ◌∙◌}
use Rattle.edges.proofs.Numbered.{label_found, label_missing}
use Rattle.edges.proofs.lookups.length_of.Goals as goal

pub returns-in-Some : goal.returns-in-Some
returns-in-Some g c = sym (ap (λ x. x.length) (label_found g.R.Ring.exact g.R.Ring.value c.args.book.now _ c.deref.ensures.value c.args.e c.in-Some.label c.in-Some.ensures.lookup))

pub returns-in-None : goal.returns-in-None
returns-in-None g c = c.zero.ensures ∙ sym (ap (λ x. x.length) (label_missing g.R.Ring.exact g.R.Ring.value c.args.book.now _ c.deref.ensures.value c.args.e c.in-None.ensures.lookup))
