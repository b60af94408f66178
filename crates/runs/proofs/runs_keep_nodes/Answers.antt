use Rattle.runs.proofs.runs_keep_nodes.Goals as goal
use Rattle.runs.proofs.Laws.{nodes_kept}

pub returns : goal.returns
returns g c N B room calls = nodes_kept g.R.Ring.exact N B room calls
