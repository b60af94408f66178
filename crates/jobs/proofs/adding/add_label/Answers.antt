use Rattle.std.proofs.Common.{map, vec_items, ap, ◌∙◌, subst, rules}
use Rattle.std.proofs.lemmas.List.{length-map, map_push}
use Rattle.std.proofs.lemmas.Result.{err_from_is_err_and}
use Rattle.lines.specs.Letters.{letter_L}
use Rattle.jobs.specs.Drafts.{front, head_of}
use Rattle.jobs.specs.Fronts.{Place}
use Rattle.jobs.specs.Ranges.{Element}
use Rattle.jobs.proofs.Adds.{unfit_label, label_has_place, set_heads}
use Rattle.jobs.proofs.adding.add_label.Goals as goal

pub returns-in_err-head : goal.returns-in_err-head
returns-in_err-head c =
    let p = err_from_is_err_and c.from_residual.result c.from_residual.ensures.1 in
    let place : Place (front c.args.draft.now) letter_L = (label_has_place _ c.args.draft.now.filled (search rules), search (rules, length-map), search (rules, length-map)) in
    rw (p.1, p.2) (unfit_label _ _ _ _ _ place c.rank.ensures c.in_err-head.ensures)

pub returns : goal.returns
returns c =
    let place : Place (front c.args.draft.now) letter_L = (label_has_place _ c.args.draft.now.filled (search rules), search (rules, length-map), search (rules, length-map)) in
    let h = head_of c.in_ok-head.head in
    let e = ap (map head_of) c.in_ok-push.ensures.items ∙ map_push head_of (vec_items c.args.draft.now.heads) c.in_ok-head.head in
    (place, (h, subst (λ d. Element d h.length) c.rank.ensures c.in_ok-head.ensures.0, c.in_ok-head.ensures.1, ap (set_heads (front c.args.draft.now)) e))
