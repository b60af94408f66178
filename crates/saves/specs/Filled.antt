-- The rows that files are read into.
use Rattle.std.specs.Prelude.{◌≡◌, List, map, length, take, drop, ℤ}
use Rattle.exact.specs.Cyclotomic.{Cyclotomic}
use Rattle.calls.specs.Records.{Record, row_view}
use Rattle.calls.specs.declared.row.Row.{Row}

-- a list's places hold some records, as far as it has places for them, and behind them it is as it was
abbrev pub Filled : (E : Cyclotomic) {C : Type 0} → (C → List ℤ) → List (Record E) → List (Row C) → List (Row C) → Type 0
Filled E listed rs old new = (map (row_view E listed) (take (length rs) new) ≡ take (length old) rs) × (drop (length rs) new ≡ drop (length rs) old)
