-- The three calls that go about the nodes, as values, and several of them in a row.
use Rattle.std.specs.Prelude.{ℕ, List, [], ◌∷◌, Some, None, Option, Ok, Err, Result}
use Rattle.exact.specs.Cyclotomic.{Cyclotomic}
use Rattle.exact.specs.JobNumbers.{JobNumbers}
use Rattle.calls.specs.Sheets.{Sheet, Why, descend, lay, set_aside}

pub data Move : Type 0 where
  descending : Move
  laying : Move
  setting_aside : Move

module _ (E : Cyclotomic) (N : JobNumbers) where
  -- a move where so many places may be used
  unfoldable pub moved : ℕ → Move → Sheet E → Result (Sheet E) Why
  moved places descending s = descend E N s
  moved places laying s = lay E N places s
  moved places setting_aside s = set_aside E N places s

  -- several moves; none where one of them is refused
  abbrev pub followed : Result (Sheet E) Why → (Sheet E → Option (Sheet E)) → Option (Sheet E)
  followed (Ok t) next = next t
  followed (Err w) next = None

  unfoldable pub replayed : ℕ → List Move → Sheet E → Option (Sheet E)
  replayed places [] s = Some s
  replayed places (m ∷ ms) s = followed (moved places m s) (replayed places ms)
