use Rattle.std.proofs.Common.{◌≡◌, ◌++◌, take, flat_map}
use Rattle.files.specs.Files.{coefficient_bytes}
use Rattle.saves.proofs.matching.after_place.Given as goal

abbrev pub invariant-loop-k : goal.invariant-loop-k
invariant-loop-k g l =
    let E = g.R.Ring.exact in
    l.bytes ≡ flat_map coefficient_bytes (take l.k (E.list (E.of (g.R.Ring.listed l.place)))) ++ l.rest
