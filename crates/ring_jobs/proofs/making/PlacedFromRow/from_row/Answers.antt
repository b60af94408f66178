use Rattle.std.proofs.Common.{sym, ap, ◌∙◌, subst}
use Rattle.rings.specs.Plane.{OnPlane, read_list}
use Rattle.edges.proofs.Gather.{off_plane}
use Rattle.ring_jobs.proofs.Reading.{placed_same, read_back}
use Rattle.ring_jobs.proofs.making.PlacedFromRow.from_row.Goals as goal

pub returns : goal.returns
returns g c =
    let E = g.R.Ring.exact in
    let k = c.in_ok-place.ensures.is in
    let s = ap (read_list E) c.as_slice.ensures.value in
    record { is = (placed_same _ _ _ _ _ (read_back E g.met.R.Ring.lawful _ _ (k.0 ∙ s)), subst (OnPlane E) s k.1) }

pub returns-in_err-place : goal.returns-in_err-place
returns-in_err-place g c =
    let E = g.R.Ring.exact in
    off_plane c.from_residual.result _ _ _ _ c.from_residual.ensures.1 (subst (λ l. OnPlane E (read_list E l)) (sym c.as_slice.ensures.value)) c.in_err-place.ensures.is
