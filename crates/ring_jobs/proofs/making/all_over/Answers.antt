use Rattle.std.proofs.Common.{vec_items, sym, ◌∙◌}
use Rattle.std.proofs.lemmas.Simd.{map-map}
use Rattle.edges.proofs.Gather.{push_more, push_end, all_step, all_end, all_row, handed_on, no_memory}
use Rattle.ring_jobs.proofs.making.all_over.Goals as goal

pub loop-row-init : goal.loop-row-init
loop-row-init g c = (rw c.new-out.ensures.items, λ k. k)

pub loop-row-preserved : goal.loop-row-preserved
loop-row-preserved g c =
    let T = g.T.FromRow in
    let h = c.in_ok-made.ensures.is in (
      push_more T.made (λ x. T.as_read (T.listed x)) c.args.rows.now c.loop-row.row-index (vec_items c.loop-row.out) (vec_items c.push.new.self) c.in_ok-made.made c.row-item.result _
          c.in_ok-push.ensures.items c.loop-row-test.true c.row-item.is h.0 c.loop-row.invariant.0,
      all_step T.listed T.OnPlane _ c.args.rows.now c.loop-row.row-index c.row-item.result c.loop-row-test.true c.row-item.is h.1 c.loop-row.invariant.1,
    )

pub returns : goal.returns
returns g c =
    let T = g.T.FromRow in
    record {
      is = (
        push_end T.made (λ x. T.as_read (T.listed x)) c.args.rows.now c.loop-row.row-index (vec_items c.loop-row.out) _ c.loop-row-test.false c.loop-row.invariant.0 ∙ sym (map-map T.as_read T.listed c.args.rows.now),
        all_end T.listed T.OnPlane _ c.args.rows.now c.loop-row.row-index c.loop-row-test.false c.loop-row.invariant.1,
      );
    }

pub returns-in_err-made : goal.returns-in_err-made
returns-in_err-made g c =
    let T = g.T.FromRow in
    handed_on c.from_residual.result _ _ _ _
    (all_row T.listed T.OnPlane c.args.rows.now c.loop-row.row-index c.row-item.result c.loop-row-test.true c.row-item.is) c.in_err-made.ensures.is c.from_residual.ensures.1

pub returns-in_err-push : goal.returns-in_err-push
returns-in_err-push g c = no_memory c.from_residual-in_err-push.result _ _ c.from_residual-in_err-push.ensures.1
