use Rattle.std.proofs.Common.{ap}
use Rattle.exact.specs.Residues.{residue}
use Rattle.edges.specs.Views.{edge_view}
use Rattle.meters.proofs.Watched.{is_watched, is_watched_back, is_another, is_arrowed_another}
use Rattle.meters.proofs.watch.WatchMeter.read.Goals as goal
use Rattle.meters.proofs.watch.WatchMeter.read.Goals.{else-not-span-via-then-not-span+else-names-2, else-not-span-via-else-not-span}

pub returns-then-names : goal.returns-then-names
returns-then-names g c B shows =
    let E = g.R.Ring.exact in let v = g.R.Ring.value in let x = c.args.span.now in let w = edge_view E v c.args.self.now.edge in
    ap residue (is_watched E B v x shows w c.names.result c.names.ensures c.if-names.true)

pub returns-then-names-2 : goal.returns-then-names-2
returns-then-names-2 g c B shows =
    let E = g.R.Ring.exact in let v = g.R.Ring.value in let x = c.args.span.now in let w = edge_view E v c.args.self.now.edge in
    ap residue (is_watched_back E B v x shows w c.names.result c.names.ensures c.names-then-not-span.result c.turned-turned.result c.names-then-not-span.ensures c.turned-turned.ensures c.if-names.false c.if-not-span.true c.if-names-2.true)

pub returns : goal.returns
returns g c B shows =
    let E = g.R.Ring.exact in let v = g.R.Ring.value in let x = c.args.span.now in let w = edge_view E v c.args.self.now.edge in
    elim c.else-not-span.branch [
      | else-not-span-via-then-not-span+else-names-2 y ↦
          ap residue (is_another E B v x shows w c.names.result c.names.ensures y.names-then-not-span.result c.turned-turned.result y.names-then-not-span.ensures c.turned-turned.ensures c.if-names.false y.if-not-span.true y.if-names-2.false)
      | else-not-span-via-else-not-span y ↦ ap residue (is_arrowed_another E B v x shows w c.names.result c.names.ensures c.if-names.false y.if-not-span.false)
    ]
