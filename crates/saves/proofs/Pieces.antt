-- The piece at a cursor, and one descent.
use Rattle.std.proofs.Common.{◌≡◌, ◌≢◌, ℕ, ◌+◌, ◌<◌, ◌≤◌, if◌then◌else◌, Some, None, Option, sym, refl, ap, ◌∙◌, arith, eq-eqb, ne_eqb, MatchOption}
use mathlib.Core.Logic.{∥∥₁_elim}
use native.Mathlib.Bridge.{le_prop}
use Rattle.exact.specs.Cyclotomic.{Cyclotomic}
use Rattle.exact.specs.JobNumbers.{JobNumbers}
use Rattle.chains.specs.Addresses.{level, child_address}
use Rattle.jobs.specs.Limits.{most_depth}
use Rattle.ring_jobs.specs.declared.job.RingJob.{RingJob}
use Rattle.nodes.specs.Table.{Entry, table}
use Rattle.nodes.specs.Views.{address_view, fault_entry}
use Rattle.nodes.specs.declared.fault.PlaceFault.{PlaceFault}
use Rattle.nodes.specs.declared.fault.PlaceFault.TheVariants.{NoNode, Ring}
use Rattle.calls.specs.Sheets.{Cursor}
use Rattle.calls.specs.Views.{cursor_view}
use Rattle.calls.specs.declared.cursor.Cursor as code
use Rattle.saves.specs.Records.{below, laid_in, piece_at}

module _ (E : Cyclotomic) (N : JobNumbers) where
  pub piece_off : (c : Cursor) (depth : ℕ) → depth ≡ N.depth → level c.node ≢ depth → piece_at E N c ≡ None
  unfolding piece_at
  piece_off c depth d h = ap (λ b. if b then laid_in E N (table E N c.node) else None) (ne_eqb (level c.node) N.depth (λ e. h (e ∙ sym d)))

  pub piece_on : (c : Cursor) (depth : ℕ) (entry : Entry E) → depth ≡ N.depth → level c.node ≡ depth → entry ≡ table E N c.node → laid_in E N entry ≡ piece_at E N c
  unfolding piece_at
  piece_on c depth entry d h e = ap (laid_in E N) e ∙ sym (ap (λ b. if b then laid_in E N (table E N c.node) else None) (eq-eqb (level c.node) N.depth (h ∙ d)))

  -- an answer that refuses is of no piece
  pub none_laid : (f : PlaceFault) → laid_in E N (fault_entry E f) ≡ None
  none_laid NoNode = refl
  none_laid (Ring f) = refl

-- ---- one descent, where the code's cursor goes to its node's first child
pub gone_down : (depth : ℕ) (from : code.Cursor) (r : Option code.Cursor) → level (cursor_view from).node ≡ from.node.level → level (cursor_view from).node < depth → depth ≤ most_depth →
    MatchOption r (from.node.level ≡ most_depth) (λ c. (address_view c.node ≡ child_address (address_view from.node) 0) × (c.descents ≡ from.descents + 1)) →
    MatchOption r (depth ≤ level (cursor_view from).node) (λ c. (level (cursor_view from).node < depth) × (cursor_view c ≡ below (cursor_view from)))
gone_down depth from None e l d h = absurd (omega arith)
gone_down depth from (Some c) e l d h = (l, λ i. record { node = h.0 i; descents = h.1 i })

-- a job's depth
pub shallow : {S : Type 0} (j : RingJob S) → j.depth ≤ most_depth
shallow j = ∥∥₁_elim j.branching le_prop (λ b. b.shallow)
