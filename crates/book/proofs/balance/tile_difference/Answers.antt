use Rattle.std.proofs.Common.{ap, ◌∙◌, arith}
use Rattle.chains.specs.Books.{tile_at}
use Rattle.chains.specs.Edges.{canonical}
use Rattle.chains.specs.Inflation.{inflate}
use Rattle.chains.specs.Placements.{outline, outlines}
use Rattle.edges.specs.Views.{chain_view, book_view}
use Rattle.edges.proofs.Gather.{handed_on}
use Rattle.book.proofs.Short.{as_long, parts_count, whole_count}
use Rattle.book.proofs.Balances.{carried}
use Rattle.book.proofs.balance.tile_difference.Goals as goal

pub first_difference-requires : goal.first_difference-requires
first_difference-requires g c =
    let E = g.R.Ring.exact in let v = g.R.Ring.value in
    let B = book_view E v c.args.book.now in
    let p = as_long E v (canonical E B) c.as_slice.result.now (outlines E B (tile_at B c.args.t).children) 192 (ap (chain_view E v) c.as_slice.ensures.value ∙ c.in_ok-parts.ensures.is.0) (parts_count E v c.args.book.now c.args.t) in
    let w = as_long E v (canonical E B) c.as_slice-2.result.now (inflate E B (outline E B c.args.t)) 96 (ap (chain_view E v) c.as_slice-2.ensures.value ∙ c.in_ok-whole.ensures.is.0) (whole_count E v c.args.book.now c.args.t) in
    (omega (arith, p), omega (arith, w))

pub returns-in_err-parts : goal.returns-in_err-parts
returns-in_err-parts g c = handed_on c.from_residual.result _ _ _ _ (λ k. (k.children, k.children_forms)) c.in_err-parts.ensures.is c.from_residual.ensures.1

pub returns-in_err-whole : goal.returns-in_err-whole
returns-in_err-whole g c =
    handed_on c.from_residual-in_err-whole.result _ _ _ _ (λ k. (k.corners, k.inflated, k.inflated_forms)) c.in_err-whole.ensures.is c.from_residual-in_err-whole.ensures.1

pub returns : goal.returns
returns g c =
    let E = g.R.Ring.exact in let v = g.R.Ring.value in
    let B = book_view E v c.args.book.now in
    let p = c.in_ok-parts.ensures.is in
    let w = c.in_ok-whole.ensures.is in
    record {
      is = (
        carried E B (outlines E B (tile_at B c.args.t).children) (inflate E B (outline E B c.args.t)) g.met.R.Ring.lawful v c.first_difference.result _ _
            (ap (chain_view E v) c.as_slice.ensures.value ∙ p.0) (ap (chain_view E v) c.as_slice-2.ensures.value ∙ w.0) c.first_difference.ensures,
        record { children = p.1.0; corners = w.1.0; inflated = w.1.1; children_forms = p.1.1; inflated_forms = w.1.2 },
      );
    }
