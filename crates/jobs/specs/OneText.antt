-- One text to a job, one job to a text.
use Rattle.std.specs.Prelude.{◌≡◌, ℕ, ◌≤◌, List, length}
use Rattle.exact.specs.JobNumbers.{JobNumbers}
use Rattle.jobs.specs.Limits.{most_bytes}
use Rattle.jobs.specs.Ranges.{InRange}
use Rattle.jobs.specs.Refusals.{Refused}
use Rattle.jobs.specs.Spelled.{spelled}

-- the text t reads as the job j
abbrev pub Reads : List ℕ → JobNumbers → Type 0
Reads t j = (t ≡ spelled j) × InRange j

pub record OneText : Type 0 where
  -- the text that is written of a job in range reads as that job, and is not overlong
  pub own_text : (j : JobNumbers) → InRange j → Reads (spelled j) j × (length (spelled j) ≤ most_bytes)
  -- two texts that read as the same job are equal, and so are two jobs that the same text reads as
  pub one_text : (t u : List ℕ) (j : JobNumbers) → Reads t j → Reads u j → t ≡ u
  pub one_job : (t : List ℕ) (i j : JobNumbers) → Reads t i → Reads t j → i ≡ j
  -- a text that reads as a job is not refused, and none is refused in two ways
  pub no_refusal : (t : List ℕ) (j : JobNumbers) (n k : ℕ) → Reads t j → Refused t n k → ⊥
  pub one_refusal : (t : List ℕ) (n k m l : ℕ) → Refused t n k → Refused t m l → (n ≡ m) × (k ≡ l)
