use Rattle.std.proofs.Common.{map, sym, ap, ◌∙◌, subst, rules}
use Rattle.job_rows.specs.Shapes.{part_of}
use Rattle.rings.specs.Plane.{OnPlane, read_list}
use Rattle.edges.proofs.Gather.{off_plane, no_memory}
use Rattle.ring_jobs.proofs.Reading.{read_back}
use Rattle.ring_jobs.proofs.Rowwise.{label_same}
use Rattle.ring_jobs.proofs.making.LabelFromRow.from_row.Goals as goal

pub returns : goal.returns
returns g c =
    let E = g.R.Ring.exact in
    let k = c.in_ok-length.ensures.is in
    let s = ap (read_list E) c.as_slice.ensures.value in
    record {
      is = (
        label_same _ _ _ _ _ (read_back E g.met.R.Ring.lawful _ _ (k.0 ∙ s)) (ap (map part_of) (search rules)),
        subst (OnPlane E) s k.1,
      );
    }

pub returns-in_err-length : goal.returns-in_err-length
returns-in_err-length g c =
    let E = g.R.Ring.exact in
    off_plane c.from_residual.result _ _ _ _ c.from_residual.ensures.1 (subst (λ l. OnPlane E (read_list E l)) (sym c.as_slice.ensures.value)) c.in_err-length.ensures.is

pub returns-in_err-subdivision : goal.returns-in_err-subdivision
returns-in_err-subdivision g c = no_memory c.from_residual-in_err-subdivision.result _ _ c.from_residual-in_err-subdivision.ensures.1
