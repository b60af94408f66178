use Rattle.std.proofs.Common.{Ok, sym, ◌∙◌, subst}
use Rattle.edges.specs.Views.{book_view}
use Rattle.chains.specs.Accepted.{SubdivisionFits}
use Rattle.book.specs.Points.{KeptSubdivision, Tested}
use Rattle.book.proofs.Tests.{test_broke_off, equal_decided}
use Rattle.book.proofs.Splitting.{stretched_at, unfilled, arrowed_fits, plain_fits}
use Rattle.book.proofs.labels.subdivision_fits.Goals as goal

pub returns-in_err-want : goal.returns-in_err-want
unfolding book_view
returns-in_err-want g c =
    let E = g.R.Ring.exact in let v = g.R.Ring.value in let B = book_view E v c.args.book.now in
    test_broke_off c.from_residual-in_err-want.result _ _ _ _ c.from_residual-in_err-want.ensures.1 (stretched_at E B c.args.e _ _ c.parts_of-parts.ensures c.length_of-length.ensures) c.in_err-want.ensures.is

pub returns-else-eq : goal.returns-else-eq
unfolding book_view
returns-else-eq g c =
    let E = g.R.Ring.exact in let v = g.R.Ring.value in let B = book_view E v c.args.book.now in
    let d = equal_decided E g.met.R.Ring.lawful _ _ _ _ _ (g.met.R.Ring.decided _ _ _ c.eq.ensures) c.in_ok-total.ensures.is.0 c.in_ok-want.ensures.is.0 in
    subst (λ b. Tested (Ok b) (SubdivisionFits E B c.args.e) (KeptSubdivision E B c.args.e)) (sym c.if-eq.false)
    (unfilled E B c.args.e _ _ c.parts_of-parts.ensures c.length_of-length.ensures _ d c.if-eq.false)

pub returns-then-is_arrowed : goal.returns-then-is_arrowed
unfolding book_view
returns-then-is_arrowed g c =
    let E = g.R.Ring.exact in let v = g.R.Ring.value in let B = book_view E v c.args.book.now in
    let d = equal_decided E g.met.R.Ring.lawful _ _ _ _ _ (g.met.R.Ring.decided _ _ _ c.eq.ensures) c.in_ok-total.ensures.is.0 c.in_ok-want.ensures.is.0 in
    subst (λ b. Tested (Ok b) (SubdivisionFits E B c.args.e) (KeptSubdivision E B c.args.e)) (sym c.if-is_arrowed.true)
    (arrowed_fits E B c.args.e _ _ c.parts_of-parts.ensures c.length_of-length.ensures _ d c.if-eq.true c.in_ok-total.ensures.is.1 c.in_ok-want.ensures.is.1 (sym c.is_arrowed.ensures ∙ c.if-is_arrowed.true))

pub returns-else-is_arrowed : goal.returns-else-is_arrowed
unfolding book_view
returns-else-is_arrowed g c =
    let E = g.R.Ring.exact in let v = g.R.Ring.value in let B = book_view E v c.args.book.now in
    let d = equal_decided E g.met.R.Ring.lawful _ _ _ _ _ (g.met.R.Ring.decided _ _ _ c.eq.ensures) c.in_ok-total.ensures.is.0 c.in_ok-want.ensures.is.0 in
    plain_fits E B c.args.e _ _ c.parts_of-parts.ensures c.length_of-length.ensures _ d c.if-eq.true c.in_ok-total.ensures.is.1 c.in_ok-want.ensures.is.1 c.is_palindrome.result
    (sym c.is_arrowed.ensures ∙ c.if-is_arrowed.false) c.is_palindrome.ensures
