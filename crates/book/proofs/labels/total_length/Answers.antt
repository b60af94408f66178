use Rattle.std.proofs.Common.{rules}
use Rattle.std.proofs.lemmas.Iterator.Adapters.{YieldsList-from_rev_slice}
use Rattle.edges.specs.Views.{book_view}
use Rattle.book.proofs.Lengthwise.{summed}
use Rattle.book.proofs.labels.total_length.Goals as goal

pub returns : goal.returns
returns g c =
    let E = g.R.Ring.exact in let v = g.R.Ring.value in let B = book_view E v c.args.book.now in
    summed E B v _ _ _ (λ e. e.0) (λ b x r q k. search rules) c.args.parts.now _ c.try_fold.new.self _ _ c.zero.ensures (YieldsList-from_rev_slice c.args.parts.now cc) c.try_fold.ensures.ran
