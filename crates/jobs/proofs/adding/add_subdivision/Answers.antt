use Rattle.std.proofs.Common.{◌≡◌, map, vec_items, sym, ap, ◌∙◌, subst, rules}
use Rattle.std.proofs.lemmas.List.{length-map, map_push}
use Rattle.std.proofs.lemmas.Result.{err_from_is_err_and}
use Rattle.lines.specs.Letters.{letter_S}
use Rattle.jobs.specs.declared.draft.Head.{Head as HeadRow}
use Rattle.jobs.specs.Drafts.{front}
use Rattle.jobs.specs.Fronts.{Place, kinds}
use Rattle.jobs.specs.Ranges.{SubdivisionFits}
use Rattle.job_rows.specs.Shapes.{part_of}
use Rattle.jobs.proofs.Adds.{unfit_subdivision, set_subdivisions, kinds_heads}
use Rattle.jobs.proofs.adding.add_subdivision.Goals as goal

pub returns-then-len : goal.returns-then-len
returns-then-len c = search (rules, length-map)

pub returns-in_err-parts : goal.returns-in_err-parts
returns-in_err-parts c =
    let p = err_from_is_err_and c.from_residual.result c.from_residual.ensures.1 in
    let place : Place (front c.args.draft.now) letter_S = search (rules, length-map) in
    let k : kinds (front c.args.draft.now) ≡ map (λ (l : HeadRow). l.arrowed) c.as_slice.result.now = kinds_heads (vec_items c.args.draft.now.heads) ∙ ap (map (λ (l : HeadRow). l.arrowed)) (sym c.as_slice.ensures.value) in
    rw (p.1, p.2) (unfit_subdivision _ _ _ _ _ place k c.in_err-parts.ensures)

pub returns : goal.returns
returns c =
    let place : Place (front c.args.draft.now) letter_S = search (rules, length-map) in
    let k : kinds (front c.args.draft.now) ≡ map (λ (l : HeadRow). l.arrowed) c.as_slice.result.now = kinds_heads (vec_items c.args.draft.now.heads) ∙ ap (map (λ (l : HeadRow). l.arrowed)) (sym c.as_slice.ensures.value) in
    let e = ap (map (λ v. map part_of (vec_items v))) c.in_ok-push.ensures.items ∙ map_push (λ v. map part_of (vec_items v)) (vec_items c.args.draft.now.subdivisions) c.in_ok-parts.parts in
    (place, (map part_of (vec_items c.in_ok-parts.parts), subst (λ ks. SubdivisionFits ks (map part_of (vec_items c.in_ok-parts.parts))) (sym k) c.in_ok-parts.ensures.0, c.in_ok-parts.ensures.1, ap (set_subdivisions (front c.args.draft.now)) e))
