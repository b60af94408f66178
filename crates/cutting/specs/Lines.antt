-- The lines of a cutting list.
use Rattle.std.specs.Prelude.{ℕ, ◌%◌, List, [], ◌∷◌, ◌++◌, Some, None, Option, pos, decimal}
use Rattle.std.specs.List.{flat_map}
use Rattle.exact.specs.Cyclotomic.{Cyclotomic}
use Rattle.chains.specs.Books.{Placement}
use Rattle.lines.specs.Spelling.{word}
use Rattle.jobs.specs.Spelled.{mark}
use Rattle.calls.specs.Records.{Record}

module _ (E : Cyclotomic) where
  -- a laid piece: tile, turn (modulo n), mirror mark and the place's coefficients, spaced singly
  abbrev pub piece_text : Placement E → List ℕ
  piece_text p = decimal p.tile ++ word (pos (p.turn % E.n)) ++ word (mark p.mirrored) ++ flat_map word (E.list p.place)

  -- a node set aside: a lone hyphen
  abbrev pub laid_text : Option (Placement E) → List ℕ
  laid_text None = 45 ∷ []
  laid_text (Some p) = piece_text p

  unfoldable pub line : Record E → List ℕ
  line r = laid_text r.laid ++ 10 ∷ []

  -- a line for each record
  abbrev pub cutting_list : List (Record E) → List ℕ
  cutting_list rs = flat_map line rs
