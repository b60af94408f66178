use Rattle.std.proofs.Common.{refl, ◌∙◌}
use Rattle.edges.specs.Views.{edge_view}
use Rattle.meters.proofs.Watched.{same_named}
use Rattle.meters.proofs.watch.Watch.names.Goals as goal

pub returns : goal.returns
returns g c =
    let E = g.R.Ring.exact in let v = g.R.Ring.value in
    let x = c.args.edge.now in let w = c.args.self.now.edge in
    same_named E (edge_view E v x) (edge_view E v w) c.N.result (g.R.PartialEq.eq x.start w.start) c.eq.result
    (c.N.ensures ∙ g.met.R.Ring.counts_turns) (g.met.R.Ring.decided x.start w.start _ refl) c.eq.ensures
