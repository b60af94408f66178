-- The law of conservation: what holds at the start of a run and after each of its calls.
use Rattle.std.specs.Prelude.{◌≡◌, ℕ, ◌<◌, ◌≤◌, ◌⊎◌, List, ◌++◌, []}
use Rattle.exact.specs.Cyclotomic.{Cyclotomic}
use Rattle.exact.specs.Groups.{AbelianGroup}
use Rattle.exact.specs.JobNumbers.{JobNumbers}
use Rattle.chains.specs.Edges.{Edge}
use Rattle.chains.specs.Books.{book_of}
use Rattle.chains.specs.Counts.{reading}
use Rattle.chains.specs.Frontiers.{seed_outlines}
use Rattle.chains.specs.Placements.{outlines}
use Rattle.calls.specs.Records.{Record, laid_pieces}
use Rattle.meters.specs.Pieces.{Unreadable}
use Rattle.sheet.specs.Ends.{NotStarted}
use Rattle.sheet.specs.declared.fault.SheetFault.{SheetFault}
use Rattle.sheet.specs.declared.fault.SheetFault.TheVariants as sheets
use Rattle.runs.specs.Runs.{State, Call, begun, run}
use Rattle.runs.specs.Law.{BoundaryConserved, ReadingConserved, ReadsAsTheSeed, ResumesTheLawful, RefusesTheOthers, TellsWhereItIsBad, NodesKept}

module _ (E : Cyclotomic) (N : JobNumbers) where
  -- the law as far as no meter is asked: (a) and (c)
  pub record Unmetered (room : ℕ) (s : State E) : Type 0 where
    -- the nodes laid, set aside and pending are the job's, and the list's laid pieces lie where the laid nodes lie
    pub nodes : NodesKept E N s
    -- (a) at every edge, laid, set aside and pending count together what the inflated seed counts
    pub boundary : BoundaryConserved E N s
    -- (c) a resume is accepted for the lawful saves, and for nothing else
    pub lawful : ResumesTheLawful E N room s
    pub unlawful : RefusesTheOthers E N room s
    pub where_bad : TellsWhereItIsBad E N room s

  -- the law, whole
  pub record Conservation (G : AbelianGroup) (reads : Edge E → G.Val) (room : ℕ) (s : State E) : Type 0 where
    pub unmetered : Unmetered room s
    -- (b) laid, set aside and pending read together as the inflated seed; with nothing left and nothing set aside the laid pieces do alone
    pub reading : ReadingConserved E N G reads s
    pub finished_reading : ReadsAsTheSeed E N G reads s

  -- after so many of the calls, and so at the start and after each of them
  abbrev pub Conserves : (G : AbelianGroup) → (Edge E → G.Val) → ℕ → List Call → Type 0
  Conserves G reads room calls = (before after : List Call) → calls ≡ before ++ after → Conservation G reads room (run E N room before (begun E N))

  abbrev pub ConservesUnmetered : ℕ → List Call → Type 0
  ConservesUnmetered room calls = (before after : List Call) → calls ≡ before ++ after → Unmetered room (run E N room before (begun E N))

  -- what the reading of a finished sheet answers where it can be read: the reading of its laid pieces; and where nothing was set aside,
  -- that of the inflated seed
  abbrev pub ReadsSo : (G : AbelianGroup) → (Edge E → G.Val) → State E → G.Val → Type 0
  ReadsSo G reads s x = (x ≡ reading G reads (outlines E (book_of E N) (laid_pieces s.sheet.records))) × (s.aside ≡ [] → x ≡ reading G reads (seed_outlines E N))

  -- a list of so many rows cannot be read where a sheet has so many records
  abbrev pub NotRead : {S : Type 0} → ℕ → ℕ → List (Record E) → SheetFault S → Type 0
  NotRead room count rs (sheets.List f) = Unreadable E N room count rs f
  NotRead room count rs (sheets.Buffer f) = ⊥
  NotRead room count rs (sheets.File f) = ⊥
  NotRead room count rs sheets.NoRoom = ⊥
  NotRead room count rs sheets.WrongLevel = ⊥
  NotRead room count rs sheets.NothingPending = ⊥
  NotRead room count rs sheets.StillPending = ⊥
  NotRead room count rs (sheets.Check f) = ⊥
  NotRead room count rs (sheets.Place f) = ⊥

  -- nothing is begun where there are fewer places for answers than calls, and else where no sheet is started
  abbrev pub NotBegun : {S : Type 0} → (S → E.Elem) → ℕ → ℕ → SheetFault S → Type 0
  NotBegun value calls answers f = ((answers < calls) × (f ≡ sheets.Buffer (record {}))) ⊎ ((calls ≤ answers) × NotStarted E value N f)
