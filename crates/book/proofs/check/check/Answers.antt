use Rattle.std.proofs.Common.{sym, refl, ◌∙◌, rules}
use Rattle.std.proofs.lemmas.Iterator.{YieldsList-from_range}
use Rattle.edges.specs.Views.{book_view}
use Rattle.edges.proofs.Numbered.{labels_many, tiles_many}
use Rattle.book.specs.Points.Point.{length_of, subdivision_of, outline_of, children_of}
use Rattle.book.proofs.Each.{up_to, each_judged}
use Rattle.book.proofs.Judging.{after_factor, after_lengths, after_subdivisions, after_outlines, before_all, judged_err, decided}
use Rattle.book.proofs.check.check.Goals as goal

pub returns-in_err-check_factor : goal.returns-in_err-check_factor
returns-in_err-check_factor g c =
    let E = g.R.Ring.exact in let v = g.R.Ring.value in let B = book_view E v c.args.book.now in
    let j = judged_err E B v c.from_residual.result _ _ c.from_residual.ensures.1 (before_all E B v _ c.in_err-check_factor.ensures.is) in
    record { first = j; decides = decided E B v _ j }

pub returns-in_err-try_for_each : goal.returns-in_err-try_for_each
returns-in_err-try_for_each g c =
    let E = g.R.Ring.exact in let v = g.R.Ring.value in let B = book_view E v c.args.book.now in
    let h = each_judged E B v length_of _ _ _ (λ e. e.0) (λ x r q k. search rules) _ _ _ _ (YieldsList-from_range 0 _ _ refl (up_to _ _ (c.len.ensures ∙ sym (labels_many E v c.args.book.now)))) c.in_err-try_for_each.ensures.ran in
    let j = judged_err E B v c.from_residual-in_err-try_for_each.result _ _ c.from_residual-in_err-try_for_each.ensures.1
    (after_factor E B v _ c.in_ok-check_factor.ensures.is h.is) in
    record { first = j; decides = decided E B v _ j }

pub returns-in_err-try_for_each-2 : goal.returns-in_err-try_for_each-2
returns-in_err-try_for_each-2 g c =
    let E = g.R.Ring.exact in let v = g.R.Ring.value in let B = book_view E v c.args.book.now in
    let a = each_judged E B v length_of _ _ _ (λ e. e.0) (λ x r q k. search rules) _ _ _ _ (YieldsList-from_range 0 _ _ refl (up_to _ _ (c.len.ensures ∙ sym (labels_many E v c.args.book.now)))) c.in_ok-try_for_each.ensures.ran in
    let h = each_judged E B v subdivision_of _ _ _ (λ e. e.0) (λ x r q k. search rules) _ _ _ _ (YieldsList-from_range 0 _ _ refl (up_to _ _ (c.len-2.ensures ∙ sym (labels_many E v c.args.book.now)))) c.in_err-try_for_each-2.ensures.ran in
    let j = judged_err E B v c.from_residual-in_err-try_for_each-2.result _ _ c.from_residual-in_err-try_for_each-2.ensures.1
    (after_lengths E B v _ c.in_ok-check_factor.ensures.is a.is h.is) in
    record { first = j; decides = decided E B v _ j }

pub returns-in_err-try_for_each-3 : goal.returns-in_err-try_for_each-3
returns-in_err-try_for_each-3 g c =
    let E = g.R.Ring.exact in let v = g.R.Ring.value in let B = book_view E v c.args.book.now in
    let a = each_judged E B v length_of _ _ _ (λ e. e.0) (λ x r q k. search rules) _ _ _ _ (YieldsList-from_range 0 _ _ refl (up_to _ _ (c.len.ensures ∙ sym (labels_many E v c.args.book.now)))) c.in_ok-try_for_each.ensures.ran in
    let b = each_judged E B v subdivision_of _ _ _ (λ e. e.0) (λ x r q k. search rules) _ _ _ _ (YieldsList-from_range 0 _ _ refl (up_to _ _ (c.len-2.ensures ∙ sym (labels_many E v c.args.book.now)))) c.in_ok-try_for_each-2.ensures.ran in
    let h = each_judged E B v outline_of _ _ _ (λ e. e.0) (λ x r q k. search rules) _ _ _ _ (YieldsList-from_range 0 _ _ refl (up_to _ _ (c.len-3.ensures ∙ sym (tiles_many E v c.args.book.now)))) c.in_err-try_for_each-3.ensures.ran in
    let j = judged_err E B v c.from_residual-in_err-try_for_each-3.result _ _ c.from_residual-in_err-try_for_each-3.ensures.1
    (after_subdivisions E B v _ c.in_ok-check_factor.ensures.is a.is b.is h.is) in
    record { first = j; decides = decided E B v _ j }

pub returns : goal.returns
returns g c =
    let E = g.R.Ring.exact in let v = g.R.Ring.value in let B = book_view E v c.args.book.now in
    let a = each_judged E B v length_of _ _ _ (λ e. e.0) (λ x r q k. search rules) _ _ _ _ (YieldsList-from_range 0 _ _ refl (up_to _ _ (c.len.ensures ∙ sym (labels_many E v c.args.book.now)))) c.in_ok-try_for_each.ensures.ran in
    let b = each_judged E B v subdivision_of _ _ _ (λ e. e.0) (λ x r q k. search rules) _ _ _ _ (YieldsList-from_range 0 _ _ refl (up_to _ _ (c.len-2.ensures ∙ sym (labels_many E v c.args.book.now)))) c.in_ok-try_for_each-2.ensures.ran in
    let o = each_judged E B v outline_of _ _ _ (λ e. e.0) (λ x r q k. search rules) _ _ _ _ (YieldsList-from_range 0 _ _ refl (up_to _ _ (c.len-3.ensures ∙ sym (tiles_many E v c.args.book.now)))) c.in_ok-try_for_each-3.ensures.ran in
    let h = each_judged E B v children_of _ _ _ (λ e. e.0) (λ x r q k. search rules) _ _ _ _ (YieldsList-from_range 0 _ _ refl (up_to _ _ (c.len-4.ensures ∙ sym (tiles_many E v c.args.book.now)))) c.try_for_each-4.ensures.ran in
    let j = after_outlines E B v c.try_for_each-4.result c.in_ok-check_factor.ensures.is a.is b.is o.is h in
    record { first = j; decides = decided E B v _ j }
