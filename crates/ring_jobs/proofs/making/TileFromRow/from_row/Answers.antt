use Rattle.std.proofs.Common.{◌≤◌, map, vec_items, vec_len, sym, ap, ◌∙◌, subst, rules}
use Rattle.std.specs.List.{AllByRecursion}
use Rattle.job_rows.specs.Limits.{most_steps, most_children}
use Rattle.job_rows.specs.Shapes.{step_of}
use Rattle.jobs.specs.Rows.{placed_of}
use Rattle.edges.proofs.Gather.{handed_on, no_memory}
use Rattle.ring_jobs.specs.Fitted.{fitted, relisted_placed}
use Rattle.ring_jobs.specs.RingJobs.{PlacedOnPlane}
use Rattle.ring_jobs.proofs.Rowwise.{as_long, tile_same}
use Rattle.ring_jobs.proofs.making.TileFromRow.from_row.Goals as goal

pub invariant_of-result : goal.invariant_of-result
invariant_of-result g c =
    let E = g.R.Ring.exact in
    let cs = c.args.tile.now.children in
    let ch = c.in_ok-children.children in
    let b = as_long _ _ _ (vec_items ch) _ (c.in_ok-children.ensures.is.0 ∙ ap (λ l. map (relisted_placed (fitted E.d)) (map placed_of l)) c.as_slice-2.ensures.value) in
    let few : vec_len c.in_ok-outline.outline ≤ most_steps = let f = c.args.tile.now.few in search rules in
    let family : vec_len ch ≤ most_children = subst (λ n. n ≤ most_children) (cs.ok.0 ∙ sym b ∙ sym ch.ok.0) c.args.tile.now.family in
    record { few = few; family = family }

pub returns : goal.returns
returns g c =
    let E = g.R.Ring.exact in
    let k = c.in_ok-children.ensures.is in
    record {
      is = (
        tile_same _ _ _ _ (ap (map step_of) (search rules)) (k.0 ∙ ap (λ l. map (relisted_placed (fitted E.d)) (map placed_of l)) c.as_slice-2.ensures.value),
        subst (λ l. AllByRecursion (PlacedOnPlane E) (map placed_of l)) c.as_slice-2.ensures.value k.1,
      );
    }

pub returns-in_err-outline : goal.returns-in_err-outline
returns-in_err-outline g c = no_memory c.from_residual.result _ _ c.from_residual.ensures.1

pub returns-in_err-children : goal.returns-in_err-children
returns-in_err-children g c =
    let E = g.R.Ring.exact in
    handed_on c.from_residual-in_err-children.result _ _ _ _ (subst (λ l. AllByRecursion (PlacedOnPlane E) (map placed_of l)) (sym c.as_slice-2.ensures.value)) c.in_err-children.ensures.is c.from_residual-in_err-children.ensures.1
