use Rattle.std.proofs.Common.{◌≡◌, [], map, vec_items, sym, ap, ◌∙◌, subst, ap₂, rules}
use Rattle.std.proofs.lemmas.Result.{err_from_is_err_and}
use Rattle.lines.specs.Letters.{letter_T}
use Rattle.jobs.specs.declared.draft.Head.{Head as HeadRow}
use Rattle.jobs.specs.Drafts.{front}
use Rattle.jobs.specs.Fronts.{Place, kinds}
use Rattle.jobs.specs.Ranges.{OutlineFits}
use Rattle.jobs.specs.Rows.{placed_of}
use Rattle.job_rows.specs.Shapes.{step_of}
use Rattle.jobs.proofs.Adds.{no_memory, unfit_outline, set_tiles, kinds_heads}
use Rattle.jobs.proofs.adding.add_tile.Goals as goal

pub returns-in_err-outline : goal.returns-in_err-outline
returns-in_err-outline c =
    let p = err_from_is_err_and c.from_residual.result c.from_residual.ensures.1 in
    let place : Place (front c.args.draft.now) letter_T = search rules in
    let k : kinds (front c.args.draft.now) ≡ map (λ (l : HeadRow). l.arrowed) c.as_slice.result.now = kinds_heads (vec_items c.args.draft.now.heads) ∙ ap (map (λ (l : HeadRow). l.arrowed)) (sym c.as_slice.ensures.value) in
    rw (p.1, p.2) (unfit_outline _ _ _ _ _ _ place k c.order.ensures c.in_err-outline.ensures)

pub returns-in_err-close_tile : goal.returns-in_err-close_tile
returns-in_err-close_tile c =
    let p = err_from_is_err_and c.from_residual-in_err-close_tile.result c.from_residual-in_err-close_tile.ensures.1 in
    rw (p.1, p.2) (no_memory _ (front c.args.draft.now) (front c.close_tile.new.draft) letter_T c.args.ns.now c.in_err-close_tile.ensures)

pub returns : goal.returns
returns c =
    let place : Place (front c.args.draft.now) letter_T = search rules in
    let ss = map step_of (vec_items c.in_ok-outline.outline) in
    let k : kinds (front c.args.draft.now) ≡ map (λ (l : HeadRow). l.arrowed) c.as_slice.result.now = kinds_heads (vec_items c.args.draft.now.heads) ∙ ap (map (λ (l : HeadRow). l.arrowed)) (sym c.as_slice.ensures.value) in
    let cs : vec_items c.new-children.result ≡ [] = search rules in
    let o = subst (λ n. OutlineFits (kinds (front c.args.draft.now)) n ss) c.order.ensures (subst (λ ks. OutlineFits ks c.order.result ss) (sym k) c.in_ok-outline.ensures.0) in
    (place, (ss, o, c.in_ok-outline.ensures.1, ap₂ (λ f cs. set_tiles f f.tiles ss cs) c.in_ok-close_tile.ensures (ap (map placed_of) cs)))
