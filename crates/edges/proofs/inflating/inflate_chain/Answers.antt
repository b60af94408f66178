use Rattle.edges.specs.Views.{counted_view, book_view}
use Rattle.edges.specs.Working.{KeptSubdivided}
use Rattle.edges.proofs.Gather.{join_more, join_end, all_step, all_end, all_row, handed_on}
use Rattle.edges.proofs.Chained.{inflated_one, inflated_rest, inflated_cons, inflated_none}
use Rattle.edges.proofs.inflating.inflate_chain.Goals as goal

pub loop-x-init : goal.loop-x-init
loop-x-init g c = (rw c.new-out.ensures.items, λ k. k)

pub loop-x-preserved : goal.loop-x-preserved
loop-x-preserved g c =
    let E = g.R.Ring.exact in let v = g.R.Ring.value in let B = book_view E v c.args.book.now in
    let h = c.in_ok-put_subdivided.ensures.is in (
      join_more (inflated_one E v B) (inflated_rest E v B) (inflated_cons E v B) (inflated_none E v B) c.args.chain.now c.loop-x.x-index
          _ _ _ c.x-item.result c.loop-x-test.true c.x-item.is h.0 c.loop-x.invariant.0,
      all_step (counted_view E v) (λ x. KeptSubdivided E B x.what) _ c.args.chain.now c.loop-x.x-index c.x-item.result c.loop-x-test.true c.x-item.is h.1 c.loop-x.invariant.1,
    )

pub returns : goal.returns
returns g c =
    let E = g.R.Ring.exact in let v = g.R.Ring.value in let B = book_view E v c.args.book.now in
    record {
      is = (
        join_end (inflated_one E v B) (inflated_rest E v B) (inflated_cons E v B) (inflated_none E v B) c.args.chain.now c.loop-x.x-index _ _ c.loop-x-test.false c.loop-x.invariant.0,
        all_end (counted_view E v) (λ x. KeptSubdivided E B x.what) _ c.args.chain.now c.loop-x.x-index c.loop-x-test.false c.loop-x.invariant.1,
      );
    }

pub returns-in_err-put_subdivided : goal.returns-in_err-put_subdivided
returns-in_err-put_subdivided g c =
    let E = g.R.Ring.exact in let v = g.R.Ring.value in let B = book_view E v c.args.book.now in
    handed_on c.from_residual.result _ _ _ _
    (all_row (counted_view E v) (λ x. KeptSubdivided E B x.what) c.args.chain.now c.loop-x.x-index c.x-item.result c.loop-x-test.true c.x-item.is)
    c.in_err-put_subdivided.ensures.is c.from_residual.ensures.1
