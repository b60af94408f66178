use Rattle.std.proofs.Common.{ℕ, ◌≡◌, ◌≤◌, [], length, map, vec_items, vec_len, sym, ap, ◌∙◌, subst}
use Rattle.std.proofs.lemmas.List.{length-map}
use mathlib.Core.Logic.{∥∥₁_elim}
use native.Mathlib.Bridge.{le_prop}
use Rattle.jobs.specs.Limits.{most_seeds}
use Rattle.jobs.specs.Rows.{placed_of}
use Rattle.jobs.specs.Jobs.{numbers}
use Rattle.jobs.specs.Rings.{order_of, rank_of}
use Rattle.job_rows.specs.Shapes.{placed_with, numbers_with}
use Rattle.ring_jobs.specs.Shapes.{Branching}
use Rattle.ring_jobs.specs.Fitted.{fitted, relisted_placed, relisted}
use Rattle.ring_jobs.specs.RingJobs.{coefficients}
use Rattle.ring_jobs.proofs.Shaping.{mapped, branching_on, numbers_relisted, ranged_branching}
use Rattle.ring_jobs.proofs.Rowwise.{as_long}
use Rattle.ring_jobs.proofs.making.assembled.Goals as goal

pub invariant_of-result : goal.invariant_of-result
unfolding relisted
invariant_of-result g c =
    let E = g.R.Ring.exact in let v = g.R.Ring.value in
    let j = c.args.job.now in
    let shape : Branching (numbers j) → Branching (numbers_with (λ _. []) (order_of j.ring) (rank_of j.ring) c.args.book j.depth (vec_items c.args.seeds)) =
    λ b. subst Branching (sym (numbers_relisted (λ _. []) (coefficients E v) _ _ c.args.book _ (vec_items c.args.seeds))) (branching_on (λ _. []) _ (subst Branching (sym c.requires) (branching_on (fitted E.d) (numbers j) b))) in
    let given : ℕ → ℕ → Type 0 = λ n d. ∥ Branching (numbers_with (λ _. []) n d c.args.book j.depth (vec_items c.args.seeds)) ∥₁ in
    let ps = c.args.seeds in
    let long : length (vec_items ps) ≡ length (vec_items j.seeds) = as_long (placed_with (coefficients E v)) placed_of (relisted_placed (fitted E.d)) (vec_items ps) (vec_items j.seeds) (ap (λ N. N.seeds) c.requires) in
    let few : vec_len ps ≤ most_seeds = subst (λ n. n ≤ most_seeds) (length-map (vec_items j.seeds) placed_of ∙ sym long ∙ sym ps.ok.0) (∥∥₁_elim j.in_range le_prop (λ r. r.shaped.few_seeds)) in
    record { few = few; branching = subst (λ n. given n c.rank.result) (sym c.order.ensures) (subst (given (order_of j.ring)) (sym c.rank.ensures) (mapped (λ r. shape (ranged_branching (numbers j) r)) j.in_range)) }
