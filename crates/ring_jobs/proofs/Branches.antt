-- That a job over a ring can be gone down: its type says that it merely can, and so it can.
use Rattle.std.proofs.Common.{◌≡◌, ℕ, ◌<◌, ◌≤◌, List, [], ◌∷◌, length, vec_items, subst}
use mathlib.Core.Logic.{∥∥₁_elim}
use native.Mathlib.Bridge.{le_prop}
use Rattle.std.specs.List.{AllByRecursion}
use Rattle.exact.specs.Cyclotomic.{Cyclotomic}
use Rattle.exact.specs.JobNumbers.{PlacedNumbers, TileNumbers, JobNumbers}
use Rattle.ring_jobs.specs.Shapes.{Branching}
use Rattle.ring_jobs.specs.RingJobs.{coefficients, job_numbers}
use Rattle.ring_jobs.specs.declared.job.RingJob.{RingJob}
use Rattle.ring_jobs.proofs.Shaping.{mapped, branching_back, numbers_relisted}

-- ---- what merely holds of each entry holds of it
every_out : {A : Type 0} (P : A → Type 0) → ((x : A) → ∥ P x ∥₁ → P x) → (xs : List A) → ∥ AllByRecursion P xs ∥₁ → AllByRecursion P xs
every_out P out [] h = tt
every_out P out (x ∷ xs) h = (out x (mapped (λ a. a.0) h), every_out P out xs (mapped (λ a. a.1) h))

named_out : (n : ℕ) (p : PlacedNumbers) → ∥ p.tile < n ∥₁ → p.tile < n
named_out n p h = ∥∥₁_elim h le_prop (λ x. x)

branching_out : (N : JobNumbers) → ∥ Branching N ∥₁ → Branching N
branching_out N b = record {
  shallow = ∥∥₁_elim b le_prop (λ x. x.shallow);
  seeded = ∥∥₁_elim b le_prop (λ x. x.seeded);
  seeds_named = every_out (λ (p : PlacedNumbers). p.tile < length N.tiles) (named_out (length N.tiles)) N.seeds (mapped (λ x. x.seeds_named) b);
  families = every_out (λ (t : TileNumbers). 0 < length t.children) (λ t h. ∥∥₁_elim h le_prop (λ x. x)) N.tiles (mapped (λ x. x.families) b);
  children_named = every_out (λ (t : TileNumbers). AllByRecursion (λ (p : PlacedNumbers). p.tile < length N.tiles) t.children)
      (λ t h. every_out (λ (p : PlacedNumbers). p.tile < length N.tiles) (named_out (length N.tiles)) t.children h) N.tiles (mapped (λ x. x.children_named) b);
}

pub branching : {S : Type 0} (E : Cyclotomic) (v : S → E.Elem) (j : RingJob S) → Branching (job_numbers E v j)
branching E v j = branching_out (job_numbers E v j) (mapped (λ b. branching_back (λ _. []) (job_numbers E v j) (subst Branching (numbers_relisted (λ _. []) (coefficients E v) j.order j.rank j.book j.depth (vec_items j.seeds)) b)) j.branching)
