use Rattle.std.proofs.Common.{◌≡◌, sym, ap, ◌∙◌, subst}
use Rattle.chains.specs.Books as books
use Rattle.chains.specs.Placements.{image, stretched, child_of}
use Rattle.edges.specs.Views.{placement_view, book_view}
use Rattle.edges.specs.Working.{KeptImage}
use Rattle.nodes.proofs.Testing.{child_yes, yes_child, off_at, not_same}
use Rattle.nodes.proofs.composing.child_under.Goals as goal

pub returns-in_err-mul : goal.returns-in_err-mul
unfolding book_view
returns-in_err-mul g c =
    let E = g.R.Ring.exact in let v = g.R.Ring.value in let B = book_view E v c.args.book.now in
    off_at c.from_residual.result _ _ _ _ c.from_residual.ensures.1 (λ k. (child_yes E B (placement_view E v c.args.parent.now) (placement_view E v c.args.child.now) k).0) c.in_err-mul.ensures.is

pub returns-in_err-place : goal.returns-in_err-place
unfolding book_view stretched
returns-in_err-place g c =
    let E = g.R.Ring.exact in let v = g.R.Ring.value in let B = book_view E v c.args.book.now in
    let p = placement_view E v c.args.parent.now in
    let s : ◌≡◌ {A = books.Placement E} (record { tile = p.tile; turn = p.turn; mirrored = p.mirrored; place = v c.in_ok-mul.field-0 }) (stretched E B p) =
    λ i. record { tile = p.tile; turn = p.turn; mirrored = p.mirrored; place = c.in_ok-mul.ensures.is.0 i } in
    off_at c.from_residual-in_err-place.result _ _ _ _ c.from_residual-in_err-place.ensures.1
    (λ k. subst (λ q. KeptImage E q (v c.args.child.now.place)) (sym s) (child_yes E B p (placement_view E v c.args.child.now) k).1) c.in_err-place.ensures.is

pub returns : goal.returns
unfolding book_view stretched child_of
returns g c =
    let E = g.R.Ring.exact in let v = g.R.Ring.value in let B = book_view E v c.args.book.now in
    let p = placement_view E v c.args.parent.now in
    let h = placement_view E v c.args.child.now in
    let m = c.in_ok-mul.ensures.is in
    let k = c.in_ok-place.ensures.is in
    let s : ◌≡◌ {A = books.Placement E} (record { tile = p.tile; turn = p.turn; mirrored = p.mirrored; place = v c.in_ok-mul.field-0 }) (stretched E B p) =
    λ i. record { tile = p.tile; turn = p.turn; mirrored = p.mirrored; place = m.0 i } in
    let at = k.0 ∙ ap (λ q. image E q h.place) s in
    record {
      is = (
        λ i. record { tile = h.tile; turn = c.heading_of.ensures i; mirrored = not_same h.mirrored p.mirrored i; place = at i },
        yes_child E B p h m.1 (subst (λ q. KeptImage E q h.place) s k.1),
      );
    }
