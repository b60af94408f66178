-- Laying all that is left of a job.
use Rattle.std.specs.Prelude.{◌≡◌, ℕ, ◌+◌, ◌-◌, ◌*◌, ◌<◌, ◌≤◌, ◌⊎◌, List, ◌++◌, map, length, take, drop, Some, None, Option, Ok, Err, Result}
use Rattle.std.specs.List.{flat_map, AllByRecursion}
use Rattle.exact.specs.Cyclotomic.{Cyclotomic}
use Rattle.exact.specs.JobNumbers.{JobNumbers}
use Rattle.chains.specs.Addresses.{Address, level, pending, node_placement}
use Rattle.jobs.specs.Limits.{most_depth}
use Rattle.nodes.specs.Table.{there, outside, table}
use Rattle.calls.specs.Limits.{usable, most_pieces}
use Rattle.calls.specs.Records.{Record}
use Rattle.calls.specs.Sheets.{Cursor, Sheet, no_room, off_plane}
use Rattle.calls.specs.Depths.{pieces_of}
use Rattle.calls.specs.Moves.{Move, descending, laying, setting_aside, replayed}
use Rattle.calls.specs.declared.row.Row.{Row}
use Rattle.runs.specs.Runs.{node_at}
use Rattle.sheet.specs.Answers.{fault}
use Rattle.sheet.specs.declared.fault.SheetFault.{SheetFault}

-- a list in which rows were written from one count to another, and no others, all in places that may be used
pub record Grown {C : Type 0} (count count' : ℕ) (old new : List (Row C)) : Type 0 where
  pub more : count ≤ count'
  pub room : count ≤ usable (length old) → count' ≤ usable (length old)
  pub as_long : length new ≡ length old
  pub before : take count new ≡ take count old
  pub behind : drop count' new ≡ drop count' old

-- the pieces that pending nodes come to, in order
abbrev pub left : JobNumbers → Option Cursor → List Address
left N cursor = flat_map (pieces_of N) (pending N (node_at cursor))

-- how far down the cursor is
abbrev pub level_at : Option Cursor → ℕ
level_at None = 0
level_at (Some c) = level c.node

-- the most steps that can follow: before each piece that a list has room for, the descents of a path
abbrev pub steps_left : ℕ → Option Cursor → ℕ
steps_left count cursor = (most_pieces - count) * (most_depth + 1) + (most_depth - level_at cursor)

-- down or laid, and not set aside
abbrev pub Forward : Move → Type 0
Forward descending = Unit {0}
Forward laying = Unit {0}
Forward setting_aside = ⊥

module _ (E : Cyclotomic) (N : JobNumbers) where
  -- descents and layings, each accepted where so many places may be used, lead from one sheet to another
  abbrev pub LedOn : ℕ → Sheet E → Sheet E → Type 0
  LedOn places old new = (ms : List Move) × AllByRecursion Forward ms × (replayed E N places ms old ≡ Some new)

  -- the pieces at some nodes were laid, and no others: they are on the plane, and what was left was these and then what is left now
  pub record Laid (nodes : List Address) (old new : Sheet E) : Type 0 where
    pub records : List (Record E)
    pub added : new.records ≡ old.records ++ records
    pub placed : map (λ (r : Record E). r.laid) records ≡ map (λ a. Some (node_placement E N a)) nodes
    pub on_plane : AllByRecursion (λ a. table E N a ≡ there (node_placement E N a)) nodes
    pub in_order : left N old.cursor ≡ nodes ++ left N new.cursor

  -- the pieces at some nodes were laid
  abbrev pub LaidSome : Sheet E → Sheet E → Type 0
  LaidSome old new = (nodes : List Address) × Laid nodes old new

  -- where so many records are listed, the piece at a node cannot be: there is no free place or, where there is, it is off the plane
  abbrev pub CannotBeLaid : {S : Type 0} → ℕ → ℕ → Address → SheetFault S → Type 0
  CannotBeLaid places count a f = ((f ≡ fault no_room) × (places ≤ count)) ⊎ ((f ≡ fault off_plane) × (count < places) × (table E N a ≡ outside))

  -- the cursor's node is at the depth and cannot be laid
  abbrev pub Stuck : {S : Type 0} → ℕ → Sheet E → SheetFault S → Type 0
  Stuck places s f = (c : Cursor) × (s.cursor ≡ Some c) × (level c.node ≡ N.depth) × CannotBeLaid places (length s.records) c.node f

  -- one step on; or the node cannot be laid
  abbrev pub StepsOn : {S : Type 0} → ℕ → Result (Unit {0}) (SheetFault S) → Sheet E → Sheet E → Type 0
  StepsOn places (Ok a) old new = LaidSome old new
  StepsOn places (Err f) old new = LaidSome old new × Stuck places new f

  -- all that was left is laid; or it is laid up to a node that cannot be
  abbrev pub LaysOn : {S : Type 0} → ℕ → Result (Unit {0}) (SheetFault S) → Sheet E → Sheet E → Type 0
  LaysOn places (Ok a) old new = (new.cursor ≡ None) × Laid (left N old.cursor) old new
  LaysOn places (Err f) old new = LaidSome old new × Stuck places new f
