use Rattle.edges.specs.Views.{book_view}
use Rattle.book.proofs.Backwards.{mirrored}
use Rattle.book.proofs.labels.mirrors.Goals as goal

pub returns : goal.returns
returns g c =
    let E = g.R.Ring.exact in let B = book_view E g.R.Ring.value c.args.book.now in
    mirrored E B c.args.a c.args.b _ _ c.is_arrowed.ensures c.eq.ensures
