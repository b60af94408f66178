use Rattle.std.proofs.Common.{[], ◌∷◌}
use Rattle.cutting.proofs.Putting.{puts_both}
use Rattle.cutting.proofs.puts.put_word.Goals as goal

pub returns : goal.returns
returns g c =
    puts_both c.args.buffer.now c.put.new.buffer c.put_number.new.buffer c.args.at c.in_ok-at.at (32 ∷ []) (g.I.Integer.text c.args.n) c.put_number.result c.in_ok-at.ensures c.put_number.ensures
