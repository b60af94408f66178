use Rattle.std.proofs.Common.{◌≡◌, pos, ◌+ℤ◌, ◌∙◌, arith, rules}
use Rattle.std.proofs.lemmas.Int.{ints}
use Rattle.std.proofs.lemmas.Iterator.{YieldsList-from_slice, YieldsList-from_map}
use Rattle.std.proofs.lemmas.Iterator.Adapters.{total_from_yields_List}
use Rattle.chains.specs.Counts.{tally}
use Rattle.chains.specs.Edges.{same_edge}
use Rattle.edges.specs.Views.{counted_view, chain_view, edge_view}
use Rattle.book.proofs.Tallying.{Near, share_of, total, tally_small, sum_fits, count_small}
use Rattle.book.proofs.nets.net.Goals as goal

pub sum-requires-clause-fits : goal.sum-requires-clause-fits
sum-requires-clause-fits g c =
    let E = g.R.Ring.exact in let v = g.R.Ring.value in
    sum_fits (same_edge E) (counted_view E v) (edge_view E v c.args.e.now) (λ x. count_small x.back) _ _ c.args.chain.now c.requires
    (YieldsList-from_map _ (share_of (same_edge E) (counted_view E v) (edge_view E v c.args.e.now)) (YieldsList-from_slice c.args.chain.now cc) c.map.ensures.closure (λ x r q k. search rules))

pub returns : goal.returns
returns g c =
    let E = g.R.Ring.exact in let v = g.R.Ring.value in
    let e = edge_view E v c.args.e.now in
    let s : c.sum.result ≡ tally (same_edge E) (chain_view E v c.args.chain.now) e =
    total_from_yields_List ◌+ℤ◌ (pos 0) c.sum.result c.sum.ensures.ran
    (YieldsList-from_map _ (share_of (same_edge E) (counted_view E v) e) (YieldsList-from_slice c.args.chain.now cc) c.map.ensures.closure (λ x r q k. search rules))
    ∙ total (same_edge E) (counted_view E v) e c.args.chain.now (pos 0) ∙ omega (arith, ints) in
    let b : Near _ (tally (same_edge E) (chain_view E v c.args.chain.now) e) = tally_small (same_edge E) (counted_view E v) e (λ x. count_small x.back) c.args.chain.now in
    record { is = omega (arith, ints); low = omega (arith, ints); high = omega (arith, ints) }
