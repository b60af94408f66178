-- A record more in a list, and a node's first child.
use Rattle.std.proofs.Common.{◌≡◌, ℕ, ◌+◌, ◌<◌, ◌≤◌, min, List, [], ◌∷◌, ◌++◌, map, length, take, set, ℤ, Some, None, Option, true, sym, refl, ap, ◌∙◌, subst, arith}
use Rattle.std.proofs.lemmas.List.{length-take, length-map, map-append, take_more_set}
use Rattle.exact.specs.Cyclotomic.{Cyclotomic}
use Rattle.exact.specs.JobNumbers.{JobNumbers}
use Rattle.calls.specs.Limits.{usable, most_pieces}
use Rattle.calls.specs.Records.{Record, row_view, records}
use Rattle.calls.specs.declared.row.Row.{Row}

module _ (E : Cyclotomic) {C : Type 0} (listed : C → List ℤ) (rows : List (Row C)) (count : ℕ) where
  records_counted : length (records E listed count rows) ≡ min count (length rows)
  records_counted = length-map (take count rows) (row_view E listed) ∙ length-take count rows

  pub room_left : count < usable (length rows) → length (records E listed count rows) < usable (length rows)
  room_left h = omega (arith, records_counted)

  pub no_room_left : usable (length rows) ≤ count → usable (length rows) ≤ length (records E listed count rows)
  no_room_left h = omega (arith, records_counted)

  pub one_more : (r : Row C) → count < usable (length rows) → records E listed (count + 1) (set rows count r) ≡ records E listed count rows ++ (row_view E listed r ∷ [])
  one_more r h = ap (map (row_view E listed)) (take_more_set rows count r (omega arith)) ∙ map-append (row_view E listed) (take count rows) (r ∷ [])
