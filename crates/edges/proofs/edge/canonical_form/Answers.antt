use Rattle.std.proofs.Common.{◌≡◌, true, false, sym, refl, ◌∙◌, true≢false}
use Rattle.edges.specs.Views.{book_view, edge_view, count_of}
use Rattle.edges.specs.Working.{as_it_stands}
use Rattle.edges.proofs.Entries.{entry_same, stays, turns, count_not}
use Rattle.edges.proofs.edge.canonical_form.Goals as goal

pub returns-then-stands : goal.returns-then-stands
returns-then-stands g c =
    let E = g.R.Ring.exact in let v = g.R.Ring.value in let x = c.args.x.now in
    let B = book_view E v c.args.book.now in
    let h : as_it_stands E B (edge_view E v x.edge) ≡ true = sym c.stands.ensures ∙ c.if-stands.true in
    record { is = (entry_same E _ _ _ _ _ _ _ c.reduced.ensures.is refl refl ∙ sym (stays E B x.edge.label x.edge.direction _ (count_of x.back) h), λ k. absurd (true≢false (sym h ∙ k))) }

pub returns : goal.returns
returns g c =
    let E = g.R.Ring.exact in let v = g.R.Ring.value in let x = c.args.x.now in
    let B = book_view E v c.args.book.now in
    let h : as_it_stands E B (edge_view E v x.edge) ≡ false = sym c.stands.ensures ∙ c.if-stands.false in
    let k = c.in_ok-start.ensures.is in
    record { is = (entry_same E _ _ _ _ _ _ _ c.opposed.ensures k.0 (count_not x.back) ∙ sym (turns E B x.edge.label x.edge.direction _ (count_of x.back) h), λ _. k.1) }
