use Rattle.std.proofs.Common.{◌≡◌, [], ◌∷◌, pos, None, subst, rules, MatchOption}
use Rattle.std.proofs.lemmas.Result.{err_from_is_err_and}
use Rattle.jobs.specs.Drafts.{front}
use Rattle.jobs.specs.Rings.{order_of}
use Rattle.jobs.specs.declared.ring.NamedRing.{NamedRing}
use Rattle.jobs.specs.declared.draft.Misfit.TheVariants.{Numbers}
use Rattle.jobs.proofs.Adds.{unfit_ring, no_ring_yet}
use Rattle.jobs.proofs.adding.add_ring.Goals as goal

pub returns-in_err-ok_or : goal.returns-in_err-ok_or
returns-in_err-ok_or c =
    let p = err_from_is_err_and c.from_residual.result c.from_residual.ensures.1 in
    let none : c.ring.result ≡ None = search rules in
    let e : c.in_err-ok_or.field-0.0 ≡ Numbers = search rules in
    let told = subst (λ r. MatchOption r ((r : NamedRing) → c.args.ns.now ≡ pos (order_of r) ∷ [] → ⊥) (λ r. c.args.ns.now ≡ pos (order_of r) ∷ [])) none c.ring.ensures in
    rw (p.1, p.2) (unfit_ring _ (front c.args.draft.now) _ _ (no_ring_yet _ (search rules)) e told)
