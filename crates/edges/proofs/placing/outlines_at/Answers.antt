use Rattle.edges.specs.Views.{placement_view, book_view}
use Rattle.edges.specs.Working.{KeptPlacedOutline}
use Rattle.edges.proofs.Gather.{join_more, join_end, all_step, all_end, all_row, handed_on}
use Rattle.edges.proofs.Chained.{outline_one, outline_rest, outline_cons, outline_none}
use Rattle.edges.proofs.placing.outlines_at.Goals as goal

pub loop-p-init : goal.loop-p-init
loop-p-init g c = (rw c.new-out.ensures.items, λ k. k)

pub loop-p-preserved : goal.loop-p-preserved
loop-p-preserved g c =
    let E = g.R.Ring.exact in let v = g.R.Ring.value in let B = book_view E v c.args.book.now in
    let h = c.in_ok-put_outline.ensures.is in (
      join_more (outline_one E v B) (outline_rest E v B) (outline_cons E v B) (outline_none E v B) c.args.placements.now c.loop-p.p-index
          _ _ _ c.p-item.result c.loop-p-test.true c.p-item.is h.0 c.loop-p.invariant.0,
      all_step (placement_view E v) (KeptPlacedOutline E B) _ c.args.placements.now c.loop-p.p-index c.p-item.result c.loop-p-test.true c.p-item.is h.1 c.loop-p.invariant.1,
    )

pub returns : goal.returns
returns g c =
    let E = g.R.Ring.exact in let v = g.R.Ring.value in let B = book_view E v c.args.book.now in
    record {
      is = (
        join_end (outline_one E v B) (outline_rest E v B) (outline_cons E v B) (outline_none E v B) c.args.placements.now c.loop-p.p-index _ _ c.loop-p-test.false c.loop-p.invariant.0,
        all_end (placement_view E v) (KeptPlacedOutline E B) _ c.args.placements.now c.loop-p.p-index c.loop-p-test.false c.loop-p.invariant.1,
      );
    }

pub returns-in_err-put_outline : goal.returns-in_err-put_outline
returns-in_err-put_outline g c =
    let E = g.R.Ring.exact in let v = g.R.Ring.value in let B = book_view E v c.args.book.now in
    handed_on c.from_residual.result _ _ _ _
    (all_row (placement_view E v) (KeptPlacedOutline E B) c.args.placements.now c.loop-p.p-index c.p-item.result c.loop-p-test.true c.p-item.is)
    c.in_err-put_outline.ensures.is c.from_residual.ensures.1
