use Rattle.std.proofs.Common.{cond, sym, ap, ◌∙◌}
use Rattle.std.proofs.lemmas.Bool.{false_from_ne_true}
use Rattle.edges.specs.Views.{placement_view}
use Rattle.ring_jobs.proofs.Booked.{book_is}
use Rattle.nodes.specs.OnPlane.{kept_corners}
use Rattle.nodes.specs.Table.{there, outside}
use Rattle.nodes.proofs.Downward.{ring_entry}
use Rattle.nodes.proofs.placing.with_corners.Goals as goal

pub returns-in_err-corners_kept : goal.returns-in_err-corners_kept
returns-in_err-corners_kept g c =
    let E = g.R.Ring.exact in let v = g.R.Ring.value in let p = placement_view E v c.args.placed in
    let same = ap (λ B. kept_corners E B p) (book_is E g.met.R.Ring.lawful v c.args.job.now) in
    ring_entry E v c.from_residual.result _ _ c.from_residual.ensures.1
    (sym (ap (λ b. cond b (there p) outside) (false_from_ne_true _ (λ k. c.in_err-corners_kept.ensures.is.1 (sym same ∙ k)))))

pub returns : goal.returns
returns g c =
    let E = g.R.Ring.exact in let v = g.R.Ring.value in let p = placement_view E v c.args.placed in
    let same = ap (λ B. kept_corners E B p) (book_is E g.met.R.Ring.lawful v c.args.job.now) in
    sym (ap (λ b. cond b (there p) outside) (same ∙ c.in_ok-corners_kept.ensures.is.1))
