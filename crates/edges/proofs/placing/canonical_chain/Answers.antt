use Rattle.std.proofs.Common.{vec_items, ◌∙◌}
use Rattle.edges.specs.Views.{counted_view, book_view}
use Rattle.edges.specs.Working.{KeptCanonical}
use Rattle.edges.proofs.Gather.{push_more, push_end, all_step, all_end, all_row, off_plane, no_memory}
use Rattle.edges.proofs.Chained.{canonical_one, canonical_all}
use Rattle.edges.proofs.placing.canonical_chain.Goals as goal

pub loop-x-init : goal.loop-x-init
loop-x-init g c = (rw c.new-out.ensures.items, λ k. k)

pub loop-x-preserved : goal.loop-x-preserved
loop-x-preserved g c =
    let E = g.R.Ring.exact in let v = g.R.Ring.value in let B = book_view E v c.args.book.now in
    let h = c.in_ok-form.ensures.is in (
      push_more (counted_view E v) (canonical_one E v B) c.args.chain.now c.loop-x.x-index (vec_items c.loop-x.out) (vec_items c.push.new.self) c.in_ok-form.form c.x-item.result _
          c.in_ok-push.ensures.items c.loop-x-test.true c.x-item.is h.0 c.loop-x.invariant.0,
      all_step (counted_view E v) (λ x. KeptCanonical E B x.what) _ c.args.chain.now c.loop-x.x-index c.x-item.result c.loop-x-test.true c.x-item.is h.1 c.loop-x.invariant.1,
    )

pub returns : goal.returns
returns g c =
    let E = g.R.Ring.exact in let v = g.R.Ring.value in let B = book_view E v c.args.book.now in
    record {
      is = (
        push_end (counted_view E v) (canonical_one E v B) c.args.chain.now c.loop-x.x-index (vec_items c.loop-x.out) _ c.loop-x-test.false c.loop-x.invariant.0 ∙ canonical_all E v B c.args.chain.now,
        all_end (counted_view E v) (λ x. KeptCanonical E B x.what) _ c.args.chain.now c.loop-x.x-index c.loop-x-test.false c.loop-x.invariant.1,
      );
    }

pub returns-in_err-form : goal.returns-in_err-form
returns-in_err-form g c =
    let E = g.R.Ring.exact in let v = g.R.Ring.value in let B = book_view E v c.args.book.now in
    off_plane c.from_residual.result _ _ _ _ c.from_residual.ensures.1
    (all_row (counted_view E v) (λ x. KeptCanonical E B x.what) c.args.chain.now c.loop-x.x-index c.x-item.result c.loop-x-test.true c.x-item.is) c.in_err-form.ensures.is

pub returns-in_err-push : goal.returns-in_err-push
returns-in_err-push g c = no_memory c.from_residual-in_err-push.result _ _ c.from_residual-in_err-push.ensures.1
