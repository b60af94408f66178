use Rattle.std.proofs.Common.{sym, refl, ◌∙◌, true≢false, w8, SFits, rules}
use Rattle.edges.specs.Views.{book_view}
use Rattle.book.proofs.Tests.{test_broke_off, equal_decided, differ, agree, one_decided}
use Rattle.book.proofs.Closing.{walked, area_is, closes_then, opens_then, kept_then}
use Rattle.book.proofs.outlines.outline_closes.Goals as goal

pub returns-in_err-round : goal.returns-in_err-round
returns-in_err-round g c =
    let E = g.R.Ring.exact in let v = g.R.Ring.value in
    let B = book_view E v c.args.book.now in
    test_broke_off c.from_residual.result _ _ _ _ c.from_residual.ensures.1 (walked E v c.args.book.now c.args.t c.steps_of.result.now c.steps_of.ensures) c.in_err-round.ensures.is

pub returns-then-ne : goal.returns-then-ne
returns-then-ne g c =
    let E = g.R.Ring.exact in let v = g.R.Ring.value in
    let r = c.in_ok-round.ensures.is in
    let d = equal_decided E g.met.R.Ring.lawful _ _ _ _ _ (g.met.R.Ring.decided _ _ _ refl) r.0.0 c.zero.ensures in
    record { is = λ h. true≢false (sym (d.1 (opens_then E v c.args.book.now c.args.t c.steps_of.result.now c.steps_of.ensures h)) ∙ differ _ c.if-ne.ensures) }

pub returns-in_err-height : goal.returns-in_err-height
returns-in_err-height g c =
    let E = g.R.Ring.exact in let v = g.R.Ring.value in
    let r = c.in_ok-round.ensures.is in
    let a = area_is E v c.args.book.now c.args.t c.steps_of.result.now c.steps_of.ensures g.met.R.Ring.lawful _ r.0.1 r.0.2 in
    test_broke_off c.from_residual-in_err-height.result _ _ _ _ c.from_residual-in_err-height.ensures.1 (kept_then E v c.args.book.now c.args.t _ a) c.in_err-height.ensures.is

pub returns : goal.returns
returns g c =
    let E = g.R.Ring.exact in let v = g.R.Ring.value in
    let r = c.in_ok-round.ensures.is in
    let a = area_is E v c.args.book.now c.args.t c.steps_of.result.now c.steps_of.ensures g.met.R.Ring.lawful _ r.0.1 r.0.2 in
    let d = equal_decided E g.met.R.Ring.lawful _ _ _ _ _ (g.met.R.Ring.decided _ _ _ refl) r.0.0 c.zero.ensures in
    let f : SFits w8 c.in_ok-height.height = search rules in
    let k = c.in_ok-height.ensures.is in
    closes_then E v c.args.book.now c.args.t c.steps_of.result.now c.steps_of.ensures _ a (d.0 (agree _ c.if-ne.ensures)) r.1 k.1 _ (one_decided _ _ f k.0)
