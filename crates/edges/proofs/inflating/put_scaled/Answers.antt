use Rattle.std.proofs.Common.{◌++◌, vec_items, ap, ◌∙◌, rules}
use mathlib.Core.List.{map-append}
use Rattle.std.proofs.lemmas.Result.{on_ok_weaker}
use Rattle.std.proofs.lemmas.Iterator.{YieldsList-from_slice, YieldsList-from_map}
use Rattle.std.proofs.lemmas.Iterator.Adapters.{items_from_extend}
use Rattle.edges.specs.Views.{chain_view, counted_view}
use Rattle.edges.proofs.Chained.{turned, turned_all}
use Rattle.edges.proofs.inflating.put_scaled.Goals as goal

pub returns : goal.returns
returns g c =
    let E = g.R.Ring.exact in let v = g.R.Ring.value in
    on_ok_weaker c.extend.result
    (λ e. ap (chain_view E v) e.0 ∙ map-append (counted_view E v) (vec_items c.args.out.now) _ ∙ ap (λ l. chain_view E v (vec_items c.args.out.now) ++ l) (turned_all E v c.args.back c.args.chain.now))
    (items_from_extend c.extend.result c.extend.ensures.ran (YieldsList-from_map _ (turned E v c.args.back) (YieldsList-from_slice c.args.chain.now cc) c.map.ensures.closure (λ x r q k. search rules)))
