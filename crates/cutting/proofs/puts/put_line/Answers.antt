use Rattle.std.proofs.Common.{[], ◌∷◌}
use Rattle.calls.specs.Records.{laid_view}
use Rattle.cutting.specs.Lines.{laid_text, line}
use Rattle.cutting.proofs.Putting.{puts_both, puts_no_more}
use Rattle.cutting.proofs.puts.put_line.Goals as goal

pub returns-in_err-at : goal.returns-in_err-at
unfolding line
returns-in_err-at g c =
    let E = g.R.Ring.exact in
    puts_no_more c.args.buffer.now c.put_laid.new.buffer c.args.at (laid_text E (laid_view E g.R.Ring.listed c.args.row.now.laid)) (10 ∷ []) c.from_residual.result c.from_residual.ensures c.in_err-at.ensures

pub returns : goal.returns
unfolding line
returns g c =
    let E = g.R.Ring.exact in
    puts_both c.args.buffer.now c.put_laid.new.buffer c.put.new.buffer c.args.at c.in_ok-at.at (laid_text E (laid_view E g.R.Ring.listed c.args.row.now.laid)) (10 ∷ []) c.put.result c.in_ok-at.ensures c.put.ensures
