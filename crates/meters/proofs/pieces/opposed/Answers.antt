use Rattle.std.proofs.Common.{◌∙◌}
use Rattle.meters.proofs.Stepping.{opposed_is}
use Rattle.meters.proofs.pieces.opposed.Goals as goal

pub returns : goal.returns
returns g c =
    let n = g.met.R.Ring.counts_turns in
    opposed_is g.R.Ring.exact c.args.direction c.N.result c.N-2.result c.N-3.result (c.N.ensures ∙ n) (c.N-2.ensures ∙ n) (c.N-3.ensures ∙ n)
