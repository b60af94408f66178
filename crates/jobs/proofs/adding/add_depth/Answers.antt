use Rattle.std.proofs.Common.{◌≡◌, ℕ, ◌≤◌, [], ◌∷◌, pos, Some, ap, subst, rules, MatchOption}
use Rattle.std.proofs.lemmas.Result.{err_from_is_err_and}
use Rattle.lines.specs.Letters.{letter_D}
use Rattle.jobs.specs.Drafts.{front}
use Rattle.jobs.specs.Fronts.{Place}
use Rattle.jobs.specs.Limits.{most_depth}
use Rattle.jobs.proofs.Adds.{no_memory, set_depth}
use Rattle.jobs.proofs.adding.add_depth.Goals as goal

pub returns-in_err-close_tile : goal.returns-in_err-close_tile
returns-in_err-close_tile c =
    let p = err_from_is_err_and c.from_residual-in_err-close_tile.result c.from_residual-in_err-close_tile.ensures.1 in
    rw (p.1, p.2) (no_memory _ (front c.args.draft.now) (front c.close_tile.new.draft) letter_D c.args.ns.now c.in_err-close_tile.ensures)

pub returns : goal.returns
returns c =
    let place : Place (front c.args.draft.now) letter_D = search rules in
    let e : c.depth.result ≡ Some c.in_ok-depth.depth = search rules in
    let told = subst (λ r. MatchOption r ((n : ℕ) → n ≤ most_depth → c.args.ns.now ≡ pos n ∷ [] → ⊥) (λ n. (n ≤ most_depth) × (c.args.ns.now ≡ pos n ∷ []))) e c.depth.ensures in
    (place, (c.in_ok-depth.depth, told.0, told.1, ap (λ f. set_depth f (Some c.in_ok-depth.depth)) c.in_ok-close_tile.ensures))
