use Rattle.std.proofs.Common.{◌≡◌, ◌≤◌, length, get_or, map, sym, ap, ◌∙◌, subst, zero-le}
use Rattle.job_rows.specs.Shapes.{placed_with}
use Rattle.ring_jobs.specs.RingJobs.{coefficients}
use Rattle.nodes.proofs.Numbered.{children_are, no_children, entry_copied}
use Rattle.nodes.proofs.lookups.child_row.Goals as goal

pub returns-in_err-get : goal.returns-in_err-get
returns-in_err-get g c =
    let E = g.R.Ring.exact in let v = g.R.Ring.value in
    rw c.from_residual.ensures (subst (λ l. length l ≤ c.args.k) (sym (no_children (coefficients E v) c.args.job.now c.args.t _ c.deref.ensures.len c.in_err-get.ensures.lookup.3)) zero-le)

pub returns : goal.returns
returns g c =
    let E = g.R.Ring.exact in let v = g.R.Ring.value in let f = coefficients E v in let t = c.args.t in
    let tile = c.in_ok-get.field-0.now in
    let e = children_are f c.args.job.now t _ tile c.deref.ensures.len c.in_ok-get.ensures.lookup.3.0 (subst (λ l. tile ≡ get_or l t tile) c.deref.ensures.value c.in_ok-get.ensures.lookup.1) in
    rw c.copied.ensures (entry_copied f _ c.deref-2.result.now (e ∙ ap (map (placed_with f)) (sym c.deref-2.ensures.value)) c.args.k c.get-2.result c.get-2.ensures.lookup)
