use Rattle.std.proofs.Common.{◌<◌, ◌≤◌, map, length, vec_items, ap, ◌∙◌, rules}
use Rattle.std.proofs.lemmas.List.{length-map, map_push}
use Rattle.std.proofs.lemmas.Result.{err_from_is_err_and}
use Rattle.lines.specs.Letters.{letter_P}
use Rattle.jobs.specs.Drafts.{front}
use Rattle.jobs.specs.Fronts.{Place}
use Rattle.jobs.specs.Rows.{placed_of}
use Rattle.jobs.proofs.Adds.{unfit_seed, placed_at, no_tile, set_seeds}
use Rattle.jobs.proofs.adding.add_seed.Goals as goal

pub returns-then-is_none : goal.returns-then-is_none
returns-then-is_none c = search (rules, length-map)

pub returns-in_err-seed : goal.returns-in_err-seed
returns-in_err-seed c =
    let p = err_from_is_err_and c.from_residual.result c.from_residual.ensures.1 in
    let place : Place (front c.args.draft.now) letter_P = search (rules, length-map) in
    rw (p.1, p.2) (unfit_seed _ _ _ _ _ _ place c.order.ensures c.rank.ensures c.in_err-seed.ensures)

pub returns-then-seed-len : goal.returns-then-seed-len
returns-then-seed-len c =
    let place : Place (front c.args.draft.now) letter_P = search (rules, length-map) in
    let l : length (front c.args.draft.now).tiles ≤ c.in_ok-seed.seed.tile = search (rules, length-map) in
    (place, λ g t. no_tile (front c.args.draft.now) g _ (placed_of c.in_ok-seed.seed) c.in_ok-seed.ensures.1 l t)

pub returns : goal.returns
returns c =
    let place : Place (front c.args.draft.now) letter_P = search (rules, length-map) in
    let e = ap (map placed_of) c.in_ok-push.ensures.items ∙ map_push placed_of (vec_items c.args.draft.now.seeds) c.in_ok-seed.seed in
    let l : c.in_ok-seed.seed.tile < length (front c.args.draft.now).tiles = search (rules, length-map) in
    (place, (placed_of c.in_ok-seed.seed, (l, placed_at _ _ _ _ (placed_of c.in_ok-seed.seed) c.order.ensures c.rank.ensures c.in_ok-seed.ensures.0), c.in_ok-seed.ensures.1, ap (set_seeds (front c.args.draft.now)) e))
