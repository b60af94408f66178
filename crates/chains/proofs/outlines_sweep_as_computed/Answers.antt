use Rattle.chains.proofs.outlines_sweep_as_computed.Goals as goal
use Rattle.chains.proofs.Examples.{outline_sweeps}

pub returns : goal.returns
returns c = outline_sweeps
