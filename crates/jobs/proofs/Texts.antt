-- The bytes of rows, against those of a job's lines.
use Rattle.std.proofs.Common.{◌≡◌, ℕ, List, [], ◌∷◌, ◌++◌, map, ℤ, vec_items, refl, ap, ◌∙◌, ap₂}
use Rattle.std.specs.Global.{Vec}
use Rattle.std.specs.List.{flat_map}
use Rattle.std.proofs.lemmas.Grind.{flat_map-append}
use Rattle.std.proofs.lemmas.List.Folds.{flat_map-map}
use Rattle.exact.specs.JobNumbers.{LabelNumbers}
use Rattle.lines.specs.Lines.{Line, spelt, text}
use Rattle.lines.specs.Spelling.{word}
use Rattle.job_rows.specs.declared.Label.{Label}
use Rattle.job_rows.specs.declared.Part.{Part}
use Rattle.job_rows.specs.declared.Step.{Step}
use Rattle.job_rows.specs.declared.Placed.{Placed}
use Rattle.job_rows.specs.declared.Tile.{Tile}
use Rattle.job_rows.specs.Shapes.{part_of, step_of}
use Rattle.jobs.specs.Rows.{label_of, placed_of, tile_of}
use Rattle.jobs.specs.RowTexts.{line_text, label_text, subdivision_line_text, part_text, step_text, placed_text, tile_text}
use Rattle.jobs.specs.Spelled.{part_numbers, step_numbers, label_line, subdivision_line, outline_line, child_line, seed_line, tile_lines}

abbrev pub spelling : Line → List ℕ
spelling l = spelt l.letter l.numbers

-- rows whose numbers stand one after the other
words_of : {X Y : Type 0} (view : X → Y) (f : Y → List ℤ) (xs : List X) → flat_map word (flat_map f (map view xs)) ≡ flat_map (λ x. flat_map word (f (view x))) xs
words_of view f [] = refl
words_of view f (x ∷ xs) = flat_map-append word (f (view x)) (flat_map f (map view xs)) ∙ ap (λ t. flat_map word (f (view x)) ++ t) (words_of view f xs)

pub labels_text : (ls : List (Label (Vec ℤ))) → text (map label_line (map label_of ls)) ≡ flat_map (λ l. line_text 76 (label_text l)) ls
labels_text [] = refl
labels_text (l ∷ ls) = ap (λ t. line_text 76 (label_text l) ++ t) (labels_text ls)

parts_spelt : (ps : List Part) → spelt (subdivision_line (map part_of ps)).letter (subdivision_line (map part_of ps)).numbers ≡ line_text 83 (flat_map part_text ps)
parts_spelt ps = ap (λ t. 83 ∷ (t ++ 10 ∷ [])) (words_of part_of part_numbers ps)

pub subdivisions_text : (ls : List (Label (Vec ℤ))) → text (map (λ (l : LabelNumbers). subdivision_line l.subdivision) (map label_of ls)) ≡ flat_map subdivision_line_text ls
subdivisions_text [] = refl
subdivisions_text (l ∷ ls) = ap₂ (λ x y. x ++ y) (parts_spelt (vec_items l.subdivision)) (subdivisions_text ls)

outline_text : (ss : List Step) → spelt (outline_line (map step_of ss)).letter (outline_line (map step_of ss)).numbers ≡ line_text 84 (flat_map step_text ss)
outline_text ss = ap (λ t. 84 ∷ (t ++ 10 ∷ [])) (words_of step_of step_numbers ss)

children_text : (cs : List (Placed (Vec ℤ))) → text (map child_line (map placed_of cs)) ≡ flat_map (λ p. line_text 67 (placed_text p)) cs
children_text cs = flat_map-map spelling child_line (map placed_of cs) ∙ flat_map-map (λ p. spelling (child_line p)) placed_of cs

pub seeds_text : (cs : List (Placed (Vec ℤ))) → text (map seed_line (map placed_of cs)) ≡ flat_map (λ p. line_text 80 (placed_text p)) cs
seeds_text cs = flat_map-map spelling seed_line (map placed_of cs) ∙ flat_map-map (λ p. spelling (seed_line p)) placed_of cs

pub tiles_text : (ts : List (Tile (Vec ℤ))) → text (flat_map tile_lines (map tile_of ts)) ≡ flat_map tile_text ts
tiles_text [] = refl
tiles_text (t ∷ ts) =
    flat_map-append spelling (tile_lines (tile_of t)) (flat_map tile_lines (map tile_of ts))
    ∙ ap₂ (λ x y. x ++ y) (ap₂ (λ x y. x ++ y) (outline_text (vec_items t.outline)) (children_text (vec_items t.children))) (tiles_text ts)
