-- The text of a job, as its parts are written.
use Rattle.std.proofs.Common.{◌≡◌, ◌+◌, ◌<◌, ◌≤◌, List, ℕ, [], ◌∷◌, ◌++◌, map, length, pos, vec_items, decimal, sym, ap, ◌∙◌, ap₂, append-nil, arith}
use mathlib.Core.Logic.{∥∥₁_elim}
use native.Mathlib.Bridge.{le_prop}
use Rattle.std.specs.List.{flat_map}
use Rattle.std.proofs.lemmas.Grind.{flat_map-append}
use Rattle.lines.specs.Lines.{line}
use Rattle.lines.specs.Letters.{letter_D}
use Rattle.lines.specs.Spelling.{word}
use Rattle.exact.specs.JobNumbers.{LabelNumbers}
use Rattle.jobs.specs.declared.job.Job.{Job}
use Rattle.jobs.specs.Jobs.{numbers}
use Rattle.jobs.specs.Limits.{most_bytes}
use Rattle.jobs.specs.Rings.{order_of}
use Rattle.jobs.specs.Rows.{label_of, placed_of, tile_of}
use Rattle.jobs.specs.RowTexts.{line_text, job_text}
use Rattle.jobs.specs.Spelled.{label_line, subdivision_line, seed_line, tile_lines, spelled}
use Rattle.jobs.proofs.Texts.{spelling, labels_text, subdivisions_text, tiles_text, seeds_text}
use Rattle.jobs.proofs.Widths.{job_fits}

pub job_spelled : (j : Job) → job_text j ≡ spelled (numbers j)
job_spelled j =
    let ls = map label_of (vec_items j.book.labels) in
    let tail = line letter_D (pos j.depth ∷ []) ∷ map seed_line (map placed_of (vec_items j.seeds)) in
    let tiles = flat_map tile_lines (map tile_of (vec_items j.book.tiles)) in
    let subs = map (λ (l : LabelNumbers). subdivision_line l.subdivision) ls in
    sym (
    ap₂ (λ x y. line_text 82 (32 ∷ x) ++ (line_text 73 (flat_map word (vec_items j.book.factor)) ++ y)) (append-nil (decimal (order_of j.ring)))
    (flat_map-append spelling (map label_line ls) (subs ++ (tiles ++ tail)) ∙ ap₂ (λ x y. x ++ y) (labels_text (vec_items j.book.labels))
    (flat_map-append spelling subs (tiles ++ tail) ∙ ap₂ (λ x y. x ++ y) (subdivisions_text (vec_items j.book.labels))
    (flat_map-append spelling tiles tail ∙ ap₂ (λ x y. x ++ y) (tiles_text (vec_items j.book.tiles))
    (ap₂ (λ x y. line_text 68 (32 ∷ x) ++ y) (append-nil (decimal j.depth)) (seeds_text (vec_items j.seeds)))))))

-- no job's text is overlong
pub job_short : (j : Job) → length (spelled (numbers j)) ≤ most_bytes
job_short j = ∥∥₁_elim j.in_range le_prop (λ i. (job_fits (numbers j) i).short)

-- nor is a new sheet too short for it
pub never_full : (j : Job) (blank : List ℕ) → blank ≡ [] → most_bytes < length blank + length (job_text j) → ⊥
never_full j blank e full =
    let m = ap length (job_spelled j) in
    let n = ap length e in
    let s = job_short j in
    omega arith

pub on_sheet : (j : Job) (blank sheet : List ℕ) → blank ≡ [] → sheet ≡ blank ++ job_text j → sheet ≡ spelled (numbers j)
on_sheet j blank sheet e p = p ∙ ap (λ t. t ++ job_text j) e ∙ job_spelled j
