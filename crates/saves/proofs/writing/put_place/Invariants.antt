use Rattle.std.proofs.Common.{◌≡◌, ◌+◌, length, take, flat_map}
use Rattle.files.specs.Files.{coefficient_bytes}
use Rattle.saves.specs.Written.{with_bytes}
use Rattle.saves.proofs.writing.put_place.Given as goal

abbrev pub invariant-loop-k : goal.invariant-loop-k
invariant-loop-k g l =
    let E = g.R.Ring.exact in
    let bytes = flat_map coefficient_bytes (take l.k (E.list (E.of (g.R.Ring.listed l.place)))) in
    (l.at ≡ l.initial.at + length bytes) × (l.buffer ≡ with_bytes l.initial.buffer l.initial.at bytes)
