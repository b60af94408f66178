use Rattle.std.proofs.Common.{map, sym, ap, ◌∙◌, subst}
use Rattle.std.specs.List.{AllByRecursion}
use Rattle.std.proofs.ByRecursion.{All-weaker}
use Rattle.rings.specs.Plane.{read_list}
use Rattle.jobs.specs.Rows.{label_of, placed_of, tile_of}
use Rattle.edges.specs.declared.fault.ChainFault.TheVariants.{Ring}
use Rattle.ring_jobs.specs.Fitted.{fitted, relisted_label, relisted_placed, relisted_tile, relisted}
use Rattle.ring_jobs.specs.RingJobs.{ListedOnPlane, LabelOnPlane, PlacedOnPlane, TileOnPlane}
use Rattle.ring_jobs.proofs.Reading.{read_back}
use Rattle.ring_jobs.proofs.Shaping.{mapped, job_same, element_on_plane, placed_on_plane, tiles_on_plane, labels_on_plane, only_memory}
use Rattle.ring_jobs.proofs.making.over.Goals as goal

pub assembled-requires : goal.assembled-requires
unfolding relisted
assembled-requires g c =
    let E = g.R.Ring.exact in
    let factor = read_back E g.met.R.Ring.lawful _ _ (c.in_ok-factor.ensures.is.0 ∙ ap (read_list E) c.as_slice.ensures.value) in
    let labels = c.in_ok-labels.ensures.is.0 ∙ ap (λ ls. map (relisted_label (fitted E.d)) (map label_of ls)) c.as_slice-2.ensures.value in
    let tiles = c.in_ok-tiles.ensures.is.0 ∙ ap (λ ts. map (relisted_tile (fitted E.d)) (map tile_of ts)) c.as_slice-3.ensures.value in
    let seeds = c.in_ok-seeds.ensures.is.0 ∙ ap (λ ps. map (relisted_placed (fitted E.d)) (map placed_of ps)) c.as_slice-4.ensures.value in
    job_same _ _ _ _ _ _ _ _ _ _ _ factor labels tiles seeds

pub returns-in_err-factor : goal.returns-in_err-factor
returns-in_err-factor g c =
    let E = g.R.Ring.exact in
    let j = c.args.job.now in
    only_memory c.from_residual.result _ (ListedOnPlane E c.as_slice.result.now) (Ring _)
    (subst (λ l. ∥ ListedOnPlane E l ∥₁) (sym c.as_slice.ensures.value) (mapped (λ r. element_on_plane E g.met.R.Ring.lawful _ r.shaped.factor.1) j.in_range))
    c.in_err-factor.ensures.is c.from_residual.ensures.1

pub returns-in_err-labels : goal.returns-in_err-labels
returns-in_err-labels g c =
    let E = g.R.Ring.exact in
    let j = c.args.job.now in
    only_memory c.from_residual-in_err-labels.result _ _ _
    (subst (λ ls. ∥ AllByRecursion (LabelOnPlane E) (map label_of ls) ∥₁) (sym c.as_slice-2.ensures.value) (mapped (λ r. labels_on_plane E g.met.R.Ring.lawful _ _ _ r.shaped.labels) j.in_range))
    c.in_err-labels.ensures.is c.from_residual-in_err-labels.ensures.1

pub returns-in_err-tiles : goal.returns-in_err-tiles
returns-in_err-tiles g c =
    let E = g.R.Ring.exact in
    let j = c.args.job.now in
    only_memory c.from_residual-in_err-tiles.result _ _ _
    (subst (λ ts. ∥ AllByRecursion (TileOnPlane E) (map tile_of ts) ∥₁) (sym c.as_slice-3.ensures.value) (mapped (λ r. tiles_on_plane E g.met.R.Ring.lawful _ _ _ _ r.shaped.tiles) j.in_range))
    c.in_err-tiles.ensures.is c.from_residual-in_err-tiles.ensures.1

pub returns-in_err-seeds : goal.returns-in_err-seeds
returns-in_err-seeds g c =
    let E = g.R.Ring.exact in
    let j = c.args.job.now in
    only_memory c.from_residual-in_err-seeds.result _ _ _
    (subst (λ ps. ∥ AllByRecursion (PlacedOnPlane E) (map placed_of ps) ∥₁) (sym c.as_slice-4.ensures.value) (mapped (λ r. placed_on_plane E g.met.R.Ring.lawful _ _ _ (All-weaker _ _ (λ p h. h.1) _ r.shaped.seeds)) j.in_range))
    c.in_err-seeds.ensures.is c.from_residual-in_err-seeds.ensures.1
