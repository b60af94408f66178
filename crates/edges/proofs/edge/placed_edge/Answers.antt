use Rattle.chains.specs.Placements.{placed_entry, placed_edge, signed}
use Rattle.edges.proofs.Entries.{entry_same, count_mirrored}
use Rattle.edges.proofs.edge.placed_edge.Goals as goal

pub returns : goal.returns
unfolding placed_entry placed_edge signed
returns g c =
    let k = c.in_ok-start.ensures.is in
    record { is = (entry_same g.R.Ring.exact _ _ _ _ _ _ _ c.heading_of.ensures k.0 (count_mirrored c.args.x.now.back c.args.p.now.mirrored), k.1) }
