-- Two proofs that two jobs have the same numbers are the same.
use mathlib.Core.Bool.{Bool-discrete}
use mathlib.Core.HLevel.{hedberg}
use mathlib.Core.List.{is_set}
use native.Mathlib.Decide.{ℕ_discrete}
use lib.IntN.{ℤ_set}
use Rattle.exact.specs.JobNumbers.{Part-set, Step-set, LabelNumbers-set, PlacedNumbers-set, TileNumbers-set, JobNumbers, JobNumbers-set}

pub numbers_set : IsSet JobNumbers
numbers_set =
    let n = hedberg ℕ_discrete in let b = hedberg Bool-discrete in let zs = is_set ℤ_set in
    let placed = PlacedNumbers-set n b zs in
    let label = LabelNumbers-set b zs (is_set (Part-set n b)) in
    let tile = TileNumbers-set (is_set (Step-set n b)) (is_set placed) in
    JobNumbers-set n zs (is_set label) (is_set tile) (is_set placed)
