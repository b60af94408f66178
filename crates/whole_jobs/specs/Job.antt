-- Laying a whole job.
use Rattle.std.specs.Prelude.{◌≡◌, ℕ, ◌≤◌, ◌⊎◌, List, [], ◌++◌, ◌∷◌, map, length, Some, None, Option, ℤ}
use Rattle.std.specs.List.{AllByRecursion}
use Rattle.exact.specs.Cyclotomic.{Cyclotomic}
use Rattle.exact.specs.JobNumbers.{JobNumbers}
use Rattle.chains.specs.Addresses.{Address, node_placement}
use Rattle.job_check.specs.Checks.{Passes}
use Rattle.nodes.specs.Table.{there, table}
use Rattle.calls.specs.Limits.{usable}
use Rattle.calls.specs.Records.{Record, records}
use Rattle.calls.specs.Sheets.{Cursor, Sheet, start}
use Rattle.calls.specs.Depths.{pieces}
use Rattle.calls.specs.Moves.{Move, replayed}
use Rattle.calls.specs.declared.row.Row.{Row}
use Rattle.meters.specs.Pieces.{Readable}
use Rattle.runs.specs.Runs.{moving, begun, run}
use Rattle.conservation.specs.Law.{ConservesUnmetered}
use Rattle.sheet.specs.Ends.{NotStarted}
use Rattle.sheet.specs.declared.fault.SheetFault.{SheetFault}
use Rattle.whole_jobs.specs.Whole.{Grown, Forward, CannotBeLaid}

module _ (E : Cyclotomic) (N : JobNumbers) where
  -- A run of descents and layings, each of them accepted, leads to a sheet with nothing set aside; and the law of conservation, as far as
  -- no meter is asked, holds at its start and after each of its calls.
  pub record LedByARun (room : ℕ) (t : Sheet E) : Type 0 where
    pub moves : List Move
    pub forward : AllByRecursion Forward moves
    pub accepted : replayed E N (usable room) moves (start E N) ≡ Some t
    pub leads : (run E N room (map moving moves) (begun E N)).sheet ≡ t
    pub none_aside : (run E N room (map moving moves) (begun E N)).aside ≡ []
    pub conserves : ConservesUnmetered E N room (map moving moves)

module _ (E : Cyclotomic) (N : JobNumbers) {C : Type 0} (listed : C → List ℤ) where
  -- a list whose first rows are the pieces at some nodes, one after the other, all of them on the plane; it can be read, and behind these
  -- rows nothing was written
  pub record Lists (count : ℕ) (nodes : List Address) (old new : List (Row C)) : Type 0 where
    pub counted : count ≡ length nodes
    pub room : count ≤ usable (length old)
    pub grown : Grown 0 count old new
    pub placed : map (λ (r : Record E). r.laid) (records E listed count new) ≡ map (λ a. Some (node_placement E N a)) nodes
    pub on_plane : AllByRecursion (λ a. table E N a ≡ there (node_placement E N a)) nodes
    pub readable : Readable E N (length new) count (records E listed count new)

  -- a run leads to the sheet with these rows and a cursor
  abbrev pub RunLists : ℕ → Option Cursor → List (Row C) → List (Row C) → Type 0
  RunLists count cursor old new = LedByARun E N (length old) (record { cursor = cursor; records = records E listed count new })

  -- the job's check passes, and all its pieces are listed, by a run that leaves nothing
  pub record LaysWhole (count : ℕ) (old new : List (Row C)) : Type 0 where
    pub passes : Passes E N
    pub lists : Lists count (pieces N) old new
    pub by_run : RunLists count None old new

  -- the job's check passes, and its pieces are listed up to one that cannot be, where the run stands still
  pub record LaysUpTo {S : Type 0} (f : SheetFault S) (old new : List (Row C)) : Type 0 where
    pub passes : Passes E N
    pub count : ℕ
    pub before : List Address
    pub at : Address
    pub behind : List Address
    pub whole : pieces N ≡ before ++ at ∷ behind
    pub lists : Lists count before old new
    pub stuck : CannotBeLaid E N (usable (length old)) count at f
    pub descents : ℕ
    pub by_run : RunLists count (Some (record { node = at; descents = descents })) old new

  -- the check refuses the job, and nothing is listed; or the pieces are listed up to one that cannot be
  abbrev pub LaysNotWhole : {S : Type 0} → (S → E.Elem) → SheetFault S → List (Row C) → List (Row C) → Type 0
  LaysNotWhole value f old new = (NotStarted E value N f × (new ≡ old)) ⊎ LaysUpTo f old new
