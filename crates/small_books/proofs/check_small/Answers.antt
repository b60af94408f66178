use Rattle.edges.specs.Views.{book_view}
use Rattle.book.proofs.Short.{few_steps, few_parts}
use Rattle.small_books.specs.Sizes.{Limited}
use Rattle.small_books.proofs.Whole.{stays, never_refuses}
use Rattle.small_books.proofs.check_small.Goals as goal

pub returns : goal.returns
returns g c =
    let E = g.R.Ring.exact in let v = g.R.Ring.value in let b = c.args.book.now in
    let limited : Limited E (book_view E v b) = record { parts = few_parts E v b; steps = few_steps E v b } in
    record {
      first = c.check.ensures.first;
      decides = λ s. never_refuses E (book_view E v b) v c.check.result (stays E g.met.R.Ring.lawful g.met.R.SmallRing.small (book_view E v b) limited s) c.check.ensures.decides;
    }
