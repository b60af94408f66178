use Rattle.std.proofs.Common.{sym, subst}
use Rattle.std.proofs.lemmas.Bool.{and_parts, and_from}
use Rattle.edges.specs.Views.{placement_view, book_view}
use Rattle.edges.specs.Working.{KeptImage}
use Rattle.nodes.proofs.Testing.{image_yes, yes_image, along_yes, yes_along, off_at}
use Rattle.nodes.proofs.composing.corner_after.Goals as goal

pub returns-in_err-corner : goal.returns-in_err-corner
returns-in_err-corner g c =
    let E = g.R.Ring.exact in let v = g.R.Ring.value in let B = book_view E v c.args.book.now in
    off_at c.from_residual.result _ _ _ _ c.from_residual.ensures.1 (λ k. along_yes E B c.args.e c.args.j (v c.args.q) (and_parts _ _ k).0) c.in_err-corner.ensures.is

pub returns-in_err-image_of : goal.returns-in_err-image_of
returns-in_err-image_of g c =
    let E = g.R.Ring.exact in let v = g.R.Ring.value in
    let p = placement_view E v c.args.p.now in
    let e = c.in_ok-corner.ensures.is.0 in
    off_at c.from_residual-in_err-image_of.result _ _ _ _ c.from_residual-in_err-image_of.ensures.1 (λ k. subst (KeptImage E p) (sym e) (image_yes E p _ (and_parts _ _ k).1)) c.in_err-image_of.ensures.is

pub returns : goal.returns
returns g c =
    let E = g.R.Ring.exact in let v = g.R.Ring.value in let B = book_view E v c.args.book.now in
    let p = placement_view E v c.args.p.now in
    let k = c.in_ok-corner.ensures.is in
    record { is = (k.0, and_from _ _ (yes_along E B c.args.e c.args.j (v c.args.q) k.1) (yes_image E p _ (subst (KeptImage E p) k.0 c.in_ok-image_of.ensures.is.1))) }
