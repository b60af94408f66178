-- The law of conservation, over whole runs.
use Rattle.std.specs.Prelude.{◌≡◌, ℕ, ◌+◌, ◌*◌, ◌<◌, ◌⊎◌, ◌↔◌, List, [], ◌∷◌, ◌++◌, length, map, get_or, drop, ◌+ℤ◌, Some, None, Option, Ok, Err}
use Rattle.std.specs.List.{AllByRecursion}
use mathlib.Core.List.{flat_map}
use Rattle.exact.specs.Cyclotomic.{Cyclotomic}
use Rattle.exact.specs.Groups.{AbelianGroup}
use Rattle.exact.specs.JobNumbers.{JobNumbers}
use Rattle.chains.specs.Counts.{reading}
use Rattle.chains.specs.Books.{Placement, book_of}
use Rattle.chains.specs.Edges.{Edge, net, ReadsEdges}
use Rattle.chains.specs.Placements.{outlines}
use Rattle.chains.specs.Accepted.{Accepted}
use Rattle.chains.specs.Addresses.{level, node_placement}
use Rattle.chains.specs.Frontiers.{OfTheJob, grown_outline, seed_outlines}
use Rattle.ring_jobs.specs.Shapes.{Branching}
use Rattle.calls.specs.Limits.{usable}
use Rattle.calls.specs.Records.{laid_pieces}
use Rattle.calls.specs.Sheets.{AtNode, no_room}
use Rattle.files.specs.Files.{last_byte, saved}
use Rattle.files.specs.Calls.{about_nodes, no_save}
use Rattle.files.specs.Theorems.{Headless, Failing}
use Rattle.runs.specs.Runs.{State, Call, moving, saving, resuming, waiting, begun, called, run}

-- calls with no resume among them
abbrev pub Unresumed : List Call → Type 0
Unresumed [] = Unit {0}
Unresumed (moving m ∷ cs) = Unresumed cs
Unresumed (saving n ∷ cs) = Unresumed cs
Unresumed (resuming f ∷ cs) = ⊥

module _ (E : Cyclotomic) (N : JobNumbers) where
  -- (a) at every edge, what the list's laid pieces count, plus what the outlines set aside and pending count, each inflated by the levels
  -- that it lacks, is what the seed tiles' outlines count, inflated to the depth
  abbrev pub BoundaryConserved : State E → Type 0
  BoundaryConserved s = (y : Edge E) →
      net E (book_of E N) (outlines E (book_of E N) (laid_pieces s.sheet.records)) y
      +ℤ net E (book_of E N) (flat_map (grown_outline E N) (s.aside ++ waiting E N s.sheet)) y
      ≡ net E (book_of E N) (seed_outlines E N) y

  -- (b) so it is in every reading of edges into a commutative group
  abbrev pub ReadingConserved : (G : AbelianGroup) → (Edge E → G.Val) → State E → Type 0
  ReadingConserved G r s =
      G.sum (reading G r (outlines E (book_of E N) (laid_pieces s.sheet.records))) (reading G r (flat_map (grown_outline E N) (s.aside ++ waiting E N s.sheet)))
      ≡ reading G r (seed_outlines E N)

  -- and where nothing is left and nothing is set aside, the laid pieces read as the inflated seed does
  abbrev pub ReadsAsTheSeed : (G : AbelianGroup) → (Edge E → G.Val) → State E → Type 0
  ReadsAsTheSeed G r s = s.sheet.cursor ≡ None → s.aside ≡ [] →
      reading G r (outlines E (book_of E N) (laid_pieces s.sheet.records)) ≡ reading G r (seed_outlines E N)

  -- (c) a resume is accepted exactly where some calls with no resume, on a new sheet with such a list, reach a sheet whose save writes
  -- the file; the resumed sheet has that one's records and cursor, and the same nodes laid and set aside
  abbrev pub ResumesTheLawful : ℕ → State E → Type 0
  ResumesTheLawful room s = (file : List ℕ) (t : State E) →
      (called E N room (resuming file) s ≡ Ok t)
      ↔ ((calls : List Call) × Unresumed calls × (run E N room calls (begun E N) ≡ t) × (saved E N t.sheet ≡ file))

  -- a resume is refused for what the file is exactly where no such calls, however long their list, reach a sheet whose save writes the
  -- file; and for want of room exactly where some do that need more records than may be used here
  abbrev pub RefusesTheOthers : ℕ → State E → Type 0
  RefusesTheOthers room s = (file : List ℕ) →
      (((offset : ℕ) × (called E N room (resuming file) s ≡ Err (no_save offset)))
      ↔ ((longer : ℕ) (calls : List Call) → Unresumed calls → saved E N (run E N longer calls (begun E N)).sheet ≡ file → ⊥))
      × ((called E N room (resuming file) s ≡ Err (about_nodes no_room))
      ↔ ((longer : ℕ) × (calls : List Call) × Unresumed calls × (saved E N (run E N longer calls (begun E N)).sheet ≡ file)
      × (usable room < length (run E N longer calls (begun E N)).sheet.records)))

  -- and the offset that such a refusal tells is where a file of bytes begins to be no save
  abbrev pub TellsWhereItIsBad : ℕ → State E → Type 0
  TellsWhereItIsBad room s = (file : List ℕ) (offset : ℕ) → AllByRecursion (λ b. b < 256) file → called E N room (resuming file) s ≡ Err (no_save offset) →
      ((offset ≡ 0) × Headless N file) ⊎ Failing E N (get_or file 1 0 * 256 + get_or file 2 0) (drop 3 file) offset

  -- The cursor is at a node of the job, or nothing is left; all nodes laid, set aside and pending are the job's, and those laid are at its
  -- depth; each record is of a node laid or set aside, and the laid pieces lie, in order, where the laid nodes lie.
  pub record NodesKept (s : State E) : Type 0 where
    pub at_node : AtNode N s.sheet.cursor
    pub of_the_job : OfTheJob N (record { laid = s.laid; aside = s.aside; pending = waiting E N s.sheet })
    pub at_depth : AllByRecursion (λ a. level a ≡ N.depth) s.laid
    pub counted : length s.sheet.records ≡ length s.laid + length s.aside
    pub pieces : laid_pieces s.sheet.records ≡ map (node_placement E N) s.laid

-- After any calls on a new sheet, in a job that can be gone down and whose book is accepted, the boundary is conserved.
abbrev pub RunsConserve : Cyclotomic → Type 0
RunsConserve E = (N : JobNumbers) → Branching N → Accepted E (book_of E N) → (room : ℕ) (calls : List Call) → BoundaryConserved E N (run E N room calls (begun E N))

-- So is every reading, and with nothing left and nothing set aside the laid pieces read as the inflated seed does.
abbrev pub RunsConserveReadings : Cyclotomic → AbelianGroup → Type 0
RunsConserveReadings E G = (N : JobNumbers) → Branching N → Accepted E (book_of E N) → (r : Edge E → G.Val) → ReadsEdges E (book_of E N) G r →
    (room : ℕ) (calls : List Call) → ReadingConserved E N G r (run E N room calls (begun E N)) × ReadsAsTheSeed E N G r (run E N room calls (begun E N))

-- After any calls a resume is accepted for the lawful saves alone, and refused with the right reason and offset.
abbrev pub RunsResume : Cyclotomic → Type 0
RunsResume E = (N : JobNumbers) → Branching N → (room : ℕ) (calls : List Call) →
    let s = run E N room calls (begun E N) in ResumesTheLawful E N room s × RefusesTheOthers E N room s × TellsWhereItIsBad E N room s

-- Resuming leads nowhere new: what any calls lead to, calls with no resume lead to.
abbrev pub RunsNeedNoResume : Cyclotomic → Type 0
RunsNeedNoResume E = (N : JobNumbers) → (room : ℕ) (calls : List Call) → (others : List Call) × Unresumed others × (run E N room others (begun E N) ≡ run E N room calls (begun E N))

-- The list's records and the cursor's descents tell all of the state.
abbrev pub RunsTell : Cyclotomic → Type 0
RunsTell E = (N : JobNumbers) → Branching N → (room more : ℕ) (calls others : List Call) →
    (run E N room calls (begun E N)).sheet.records ≡ (run E N more others (begun E N)).sheet.records →
    last_byte (run E N room calls (begun E N)).sheet.cursor ≡ last_byte (run E N more others (begun E N)).sheet.cursor →
    run E N room calls (begun E N) ≡ run E N more others (begun E N)

-- After any calls the nodes are as a run keeps them.
abbrev pub RunsKeepNodes : Cyclotomic → Type 0
RunsKeepNodes E = (N : JobNumbers) → Branching N → (room : ℕ) (calls : List Call) → NodesKept E N (run E N room calls (begun E N))
