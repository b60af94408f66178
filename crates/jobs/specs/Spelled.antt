-- The lines of a job, and its text.
use Rattle.std.specs.Prelude.{ℕ, Bool, true, false, List, [], ◌∷◌, ◌++◌, map, ℤ, pos}
use Rattle.std.specs.List.{flat_map}
use Rattle.exact.specs.JobNumbers.{JobNumbers, LabelNumbers, TileNumbers, PlacedNumbers, Part, Step}
use Rattle.lines.specs.Letters.{letter_R, letter_I, letter_L, letter_S, letter_T, letter_C, letter_D, letter_P}
use Rattle.lines.specs.Lines.{Line, line, text}

-- a mark: 1 for true, 0 for false
abbrev pub mark : Bool → ℤ
mark true = pos 1
mark false = pos 0

abbrev pub label_numbers : Bool → List ℤ → List ℤ
label_numbers arrowed length = mark arrowed ∷ length

abbrev pub part_numbers : Part → List ℤ
part_numbers p = pos p.label ∷ mark p.forward ∷ []

abbrev pub step_numbers : Step → List ℤ
step_numbers s = pos s.label ∷ mark s.forward ∷ pos s.direction ∷ []

abbrev pub placed_numbers : PlacedNumbers → List ℤ
placed_numbers p = pos p.tile ∷ pos p.turn ∷ mark p.mirrored ∷ p.place

abbrev pub label_line : LabelNumbers → Line
label_line l = line letter_L (label_numbers l.arrowed l.length)

abbrev pub subdivision_line : List Part → Line
subdivision_line ps = line letter_S (flat_map part_numbers ps)

abbrev pub outline_line : List Step → Line
outline_line ss = line letter_T (flat_map step_numbers ss)

abbrev pub child_line : PlacedNumbers → Line
child_line p = line letter_C (placed_numbers p)

abbrev pub seed_line : PlacedNumbers → Line
seed_line p = line letter_P (placed_numbers p)

-- a T line with the C lines of its children
abbrev pub tile_lines : TileNumbers → List Line
tile_lines t = outline_line t.outline ∷ map child_line t.children

abbrev pub lines_of : JobNumbers → List Line
lines_of j =
    line letter_R (pos j.order ∷ []) ∷ line letter_I j.factor ∷
    (map label_line j.labels ++ (map (λ (l : LabelNumbers). subdivision_line l.subdivision) j.labels
    ++ (flat_map tile_lines j.tiles ++ line letter_D (pos j.depth ∷ []) ∷ map seed_line j.seeds)))

-- the text of a job
abbrev pub spelled : JobNumbers → List ℕ
spelled j = text (lines_of j)
