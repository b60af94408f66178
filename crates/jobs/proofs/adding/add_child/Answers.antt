use Rattle.std.proofs.Common.{◌≡◌, ◌<◌, [], ◌∷◌, ◌++◌, map, length, Some, vec_items, sym, ap, ◌∙◌, ap₂, rules}
use Rattle.std.proofs.lemmas.List.{map_push}
use Rattle.std.proofs.lemmas.Result.{err_from_is_err_and}
use Rattle.jobs.specs.Begun.{outline_in, children_in}
use Rattle.jobs.specs.Drafts.{front}
use Rattle.job_rows.specs.Limits.{most_children}
use Rattle.jobs.specs.Rows.{placed_of}
use Rattle.jobs.proofs.Adds.{unfit_child, placed_at, set_tiles, child_has_place}
use Rattle.jobs.proofs.adding.add_child.Goals as goal

pub returns-in_err-child : goal.returns-in_err-child
returns-in_err-child c =
    let p = err_from_is_err_and c.from_residual-in_err-child.result c.from_residual-in_err-child.ensures.1 in
    let e : c.args.draft.now.begun ≡ Some c.in_ok-tile.tile = search rules in
    let l : length (vec_items c.in_ok-tile.tile.children) < most_children = search rules in
    rw (p.1, p.2) (unfit_child _ (front c.args.draft.now) _ _ _ _ (child_has_place _ _ e (c.args.draft.now.outlined _ e) l) c.order.ensures c.rank.ensures c.in_err-child.ensures)

pub returns : goal.returns
returns c =
    let f = front c.args.draft.now in
    let t = c.in_ok-tile.tile in
    let e : c.args.draft.now.begun ≡ Some t = search rules in
    let l : length (vec_items t.children) < most_children = search rules in
    let x = placed_of c.in_ok-child.child in
    let k : map placed_of (vec_items c.push.new.self) ≡ children_in c.args.draft.now.begun ++ x ∷ []
    = ap (map placed_of) c.in_ok-push.ensures.items ∙ map_push placed_of (vec_items t.children) c.in_ok-child.child ∙ ap (λ o. children_in o ++ x ∷ []) (sym e) in
    (child_has_place _ _ e (c.args.draft.now.outlined _ e) l, (x, placed_at _ _ _ _ x c.order.ensures c.rank.ensures c.in_ok-child.ensures.0, c.in_ok-child.ensures.1, ap₂ (set_tiles f f.tiles) (ap outline_in (sym e)) k))
