-- What a draft says, and what adding a line to it answers.
use Rattle.std.specs.Prelude.{Bool, List, map, ℤ, Ok, Err, vec_items, Result}
use Rattle.lines.specs.Letters.{Letter}
use Rattle.job_rows.specs.Shapes.{part_of}
use Rattle.jobs.specs.declared.draft.Draft.{Draft}
use Rattle.jobs.specs.declared.draft.Head.{Head as HeadRow}
use Rattle.jobs.specs.declared.draft.Misfit.{Misfit}
use Rattle.jobs.specs.declared.draft.Misfit.TheVariants.{Place as Misplaced, Numbers, Memory}
use Rattle.jobs.specs.Begun.{order_in, rank_in, factor_in, outline_in, children_in}
use Rattle.jobs.specs.Fronts.{Front, Head, Place, Takes}
use Rattle.jobs.specs.Rows.{placed_of, tile_of}

abbrev pub head_of : HeadRow → Head
head_of l = record { arrowed = l.arrowed; length = vec_items l.length }

-- true for each arrowed label and false for each plain one
abbrev pub arrows : List HeadRow → List Bool
arrows ls = map (λ (l : HeadRow). l.arrowed) ls

abbrev pub front : Draft → Front
front d = record {
  order = order_in d.ring;
  rank = rank_in d.ring;
  factor = factor_in d.factor;
  heads = map head_of (vec_items d.heads);
  subdivisions = map (λ v. map part_of (vec_items v)) (vec_items d.subdivisions);
  tiles = map tile_of (vec_items d.tiles);
  outline = outline_in d.begun;
  children = children_in d.begun;
  depth = d.depth;
  seeds = map placed_of (vec_items d.seeds);
}

-- a line with the letter a and the numbers zs is added to f, and leaves g
abbrev pub Added : Front → Letter → List ℤ → Result (Unit {0}) Misfit → Front → Type 0
Added f a zs (Ok _) g = Place f a × Takes f a zs g
Added f a zs (Err Misplaced) g = Place f a → ⊥
Added f a zs (Err Numbers) g = Place f a × ((h : Front) → Takes f a zs h → ⊥)
Added f a zs (Err Memory) g = Unit {0}

-- why numbers are not read, where none says that they cannot be
abbrev pub Unfit : Type 0 → Misfit → Type 0
Unfit none Misplaced = ⊥
Unfit none Numbers = none
Unfit none Memory = Unit {0}
