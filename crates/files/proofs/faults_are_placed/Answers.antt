use Rattle.files.proofs.faults_are_placed.Goals as goal
use Rattle.files.proofs.Places.{placing}

pub returns : goal.returns
returns g c N low file place e = placing g.R.Ring.exact N low file place e
