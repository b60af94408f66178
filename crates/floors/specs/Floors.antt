-- The cutting list of a whole job, and why there is none.
use Rattle.std.specs.Prelude.{◌≡◌, ℕ, ◌<◌, ◌⊎◌, ◌≤◌, List, [], ◌∷◌, ◌++◌, length, Some}
use Rattle.std.specs.List.{flat_map, AllByRecursion}
use Rattle.exact.specs.Cyclotomic.{Cyclotomic}
use Rattle.exact.specs.JobNumbers.{JobNumbers}
use Rattle.chains.specs.Books.{Placement}
use Rattle.chains.specs.Addresses.{Address, node_placement}
use Rattle.job_check.specs.Checks.{Passes}
use Rattle.nodes.specs.Table.{there, table}
use Rattle.calls.specs.Depths.{pieces}
use Rattle.sheet.specs.Ends.{NotStarted}
use Rattle.sheet.specs.declared.fault.SheetFault.{SheetFault}
use Rattle.sheet.specs.declared.fault.SheetFault.TheVariants.{Buffer}
use Rattle.whole_jobs.specs.Whole.{CannotBeLaid}
use Rattle.cutting.specs.Lines.{laid_text}
use Rattle.floors.specs.declared.fault.FloorFault.{FloorFault}
use Rattle.floors.specs.declared.fault.FloorFault.TheVariants.{Sheet, Memory}

-- the bytes that are lent for a list
abbrev pub most_bytes : ℕ
most_bytes = 262144

module _ (E : Cyclotomic) where
  -- a piece's line
  abbrev pub piece_line : Placement E → List ℕ
  piece_line p = laid_text E (Some p) ++ 10 ∷ []

  module _ (N : JobNumbers) where
    -- a line for each piece of the inflation rule, in depth-first order
    unfoldable pub floor_list : List ℕ
    floor_list = flat_map (λ a. piece_line (node_placement E N a)) (pieces N)

    -- the check passes the job, its pieces are on the plane, and so many places are enough for them
    pub record AllLaid (places : ℕ) : Type 0 where
      pub passes : Passes E N
      pub on_plane : AllByRecursion (λ a. table E N a ≡ there (node_placement E N a)) (pieces N)
      pub room : length (pieces N) ≤ places

    -- the pieces can be laid up to one that cannot be: there is no free place or, where there is, it is off the plane
    pub record StopsAt {S : Type 0} (places : ℕ) (f : SheetFault S) : Type 0 where
      pub passes : Passes E N
      pub before : List Address
      pub at : Address
      pub behind : List Address
      pub whole : pieces N ≡ before ++ at ∷ behind
      pub on_plane : AllByRecursion (λ a. table E N a ≡ there (node_placement E N a)) before
      pub stuck : CannotBeLaid E N places (length before) at f

    -- the pieces can be laid, and their list is longer than the text
    abbrev pub TooLong : {S : Type 0} → ℕ → ℕ → SheetFault S → Type 0
    TooLong places bytes f = (f ≡ Buffer (record {})) × AllLaid places × (bytes < length floor_list)

    -- why a sheet with a list of so many places and a text of so many bytes gives no list: the check refuses the job; a piece cannot be
    -- laid; or the list is longer than the text
    abbrev pub NoList : {S : Type 0} → (S → E.Elem) → ℕ → ℕ → SheetFault S → Type 0
    NoList value places bytes f = NotStarted E value N f ⊎ (StopsAt places f ⊎ TooLong places bytes f)

    -- why a job gives no list: the check refuses it, or a piece cannot be laid; at any time memory may be wanting
    abbrev pub NoFloor : {S : Type 0} → (S → E.Elem) → ℕ → FloorFault S → Type 0
    NoFloor value places Memory = Unit {0}
    NoFloor value places (Sheet f) = NotStarted E value N f ⊎ StopsAt places f
