-- The bytes of rows, without letters; of lines, with them.
use Rattle.std.specs.Prelude.{ℕ, List, [], ◌∷◌, ◌++◌, ℤ, vec_items, decimal}
use Rattle.std.specs.Global.{Vec}
use Rattle.std.specs.List.{flat_map}
use Rattle.lines.specs.Spelling.{word}
use Rattle.jobs.specs.declared.job.Job.{Job}
use Rattle.job_rows.specs.declared.Label.{Label}
use Rattle.job_rows.specs.declared.Part.{Part}
use Rattle.job_rows.specs.declared.Step.{Step}
use Rattle.job_rows.specs.declared.Placed.{Placed}
use Rattle.job_rows.specs.declared.Tile.{Tile}
use Rattle.job_rows.specs.Shapes.{part_of, step_of}
use Rattle.jobs.specs.Rings.{order_of}
use Rattle.jobs.specs.Rows.{placed_of}
use Rattle.jobs.specs.Spelled.{label_numbers, part_numbers, step_numbers, placed_numbers}

abbrev pub label_text : Label (Vec ℤ) → List ℕ
label_text l = flat_map word (label_numbers l.arrowed (vec_items l.length))

abbrev pub part_text : Part → List ℕ
part_text p = flat_map word (part_numbers (part_of p))

abbrev pub step_text : Step → List ℕ
step_text s = flat_map word (step_numbers (step_of s))

abbrev pub placed_text : Placed (Vec ℤ) → List ℕ
placed_text p = flat_map word (placed_numbers (placed_of p))

-- the letter b, the row's bytes, and the line's end
abbrev pub line_text : ℕ → List ℕ → List ℕ
line_text b row = b ∷ (row ++ 10 ∷ [])

-- the S line of a label
abbrev pub subdivision_line_text : Label (Vec ℤ) → List ℕ
subdivision_line_text l = line_text 83 (flat_map part_text (vec_items l.subdivision))

-- a T line with its C lines
abbrev pub tile_text : Tile (Vec ℤ) → List ℕ
tile_text t = line_text 84 (flat_map step_text (vec_items t.outline)) ++ flat_map (λ p. line_text 67 (placed_text p)) (vec_items t.children)

abbrev pub job_text : Job → List ℕ
job_text j =
    line_text 82 (32 ∷ decimal (order_of j.ring))
    ++ (line_text 73 (flat_map word (vec_items j.book.factor))
    ++ (flat_map (λ l. line_text 76 (label_text l)) (vec_items j.book.labels)
    ++ (flat_map subdivision_line_text (vec_items j.book.labels)
    ++ (flat_map tile_text (vec_items j.book.tiles)
    ++ (line_text 68 (32 ∷ decimal j.depth)
    ++ flat_map (λ p. line_text 80 (placed_text p)) (vec_items j.seeds))))))
