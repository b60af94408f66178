use Rattle.std.proofs.Common.{take, Some}
use Rattle.std.specs.List.{flat_map}
use Rattle.lines.specs.Spelling.{word}
use Rattle.cutting.specs.Puts.{Puts}
use Rattle.cutting.proofs.puts.put_place.Given as goal

abbrev pub invariant-loop-k : goal.invariant-loop-k
invariant-loop-k g l = Puts l.initial.buffer l.at (flat_map word (take l.k (g.R.Ring.listed l.place))) l.buffer (Some l.end)
