use Rattle.std.proofs.Common.{◌≡◌, pos, sym, refl, ap, ◌∙◌, subst, append-nil, arith, w64, to_z, of_z}
use Rattle.std.proofs.lemmas.Int.{ints}
use Rattle.std.specs.List.{AllByRecursion}
use Rattle.book.proofs.Sides.{split, passed_more, passed_all, side_of, step}
use Rattle.book.proofs.Balances.{Passes, agree, first}
use Rattle.book.proofs.nets.first_difference.Goals as goal

pub search-init : goal.search-init
search-init g c = (refl, tt)

pub loop-x-init : goal.loop-x-init
loop-x-init g c = (
  c.search.invariant.0,
  side_of c.args.parts c.args.whole c.side-item.result c.search.side-index c.search-test.true,
  subst (AllByRecursion (Passes g.R.Ring.exact g.R.Ring.value c.args.parts.now c.args.whole.now)) (sym (append-nil _)) c.search.invariant.1,
)

pub loop-x-preserved : goal.loop-x-preserved
loop-x-preserved g c =
    let z : c.excess-amount.result ≡ pos 0 = omega (arith, ints) in (
      c.loop-x.invariant.0,
      c.loop-x.invariant.1,
      step c.args.parts.now c.args.whole.now (Passes g.R.Ring.exact g.R.Ring.value c.args.parts.now c.args.whole.now) _ _ c.loop-x.x-index c.x-item.result c.loop-x-test.true c.x-item.is
          (sym c.excess-amount.ensures ∙ z) c.loop-x.invariant.2,
    )

pub search-preserved : goal.search-preserved
search-preserved g c = (
  c.loop-x.invariant.0,
  subst (AllByRecursion (Passes g.R.Ring.exact g.R.Ring.value c.args.parts.now c.args.whole.now))
      (passed_more c.args.parts.now c.args.whole.now c.search.side-index _ c.loop-x.x-index c.loop-x.invariant.1 c.loop-x-test.false) c.loop-x.invariant.2,
)

pub returns-after-search : goal.returns-after-search
returns-after-search g c =
    rw c.search.invariant.0
    (agree g.R.Ring.exact g.R.Ring.value c.args.parts.now c.args.whole.now
    (subst (AllByRecursion (Passes g.R.Ring.exact g.R.Ring.value c.args.parts.now c.args.whole.now)) (passed_all c.args.parts.now c.args.whole.now c.search.side-index c.search-test.false) c.search.invariant.1))

pub returns-then-amount-ne0 : goal.returns-then-amount-ne0
returns-then-amount-ne0 g c =
    let s = split c.args.parts.now c.args.whole.now c.search.side-index _ c.loop-x.x-index c.x-item.result c.loop-x.invariant.1 c.loop-x-test.true c.x-item.is in
    let z : to_z w64 (of_z w64 c.excess-amount.result) ≡ c.excess-amount.result = omega (arith, ints) in
    first g.R.Ring.exact g.R.Ring.value c.args.parts.now c.args.whole.now _ c.x-item.result s.0 s.1 c.loop-x.invariant.2 _ (z ∙ c.excess-amount.ensures) (λ h. c.if-amount-ne0.true (ap (of_z w64) (sym z ∙ h)))
