-- A sheet in progress, and what each call makes of it.
use Rattle.std.specs.Prelude.{◌≡◌, ℕ, ◌+◌, Bool, true, if◌then◌else◌, List, [], ◌∷◌, ◌++◌, length, Some, None, Option, Ok, Err, Result, ◌==◌, nat_lt}
use Rattle.exact.specs.Cyclotomic.{Cyclotomic}
use Rattle.exact.specs.JobNumbers.{JobNumbers}
use Rattle.chains.specs.Books.{Placement}
use Rattle.chains.specs.Addresses.{Address, level, child_address, seed_on, advance, has_node}
use Rattle.nodes.specs.Table.{Entry, there, missing, outside, table}
use Rattle.calls.specs.Records.{Record}

-- the node that is to be worked on next, and the descents to it since the start or the last record
pub record Cursor : Type 0 where
  pub node : Address
  pub descents : ℕ

-- a sheet in progress: its cursor, or none when nothing is left, and the records of its list, in order
pub record Sheet (E : Cyclotomic) : Type 0 where
  pub cursor : Option Cursor
  pub records : List (Record E)

-- why a call refuses: 11, 10, 9, 3 and 8
pub data Why : Type 0 where
  nothing_pending : Why
  wrong_level : Why
  no_room : Why
  no_node : Why
  off_plane : Why

-- the cursor at a node, or nowhere, with no descent yet
abbrev pub come_to : Option Address → Option Cursor
come_to None = None
come_to (Some a) = Some (record { node = a; descents = 0 })

-- what is done at the cursor's node; where nothing is pending, nothing can be
abbrev pub at_cursor : {S : Type 0} → Option Cursor → (Cursor → Result S Why) → Result S Why
at_cursor None f = Err nothing_pending
at_cursor (Some c) f = f c

-- on, if a test holds; else why not
abbrev pub provided : {S : Type 0} → Bool → Why → Result S Why → Result S Why
provided holds why next = if holds then next else Err why

module _ (E : Cyclotomic) (N : JobNumbers) where
  -- a new sheet stands at the first seed tile and has no records
  unfoldable pub start : Sheet E
  start = record { cursor = come_to (seed_on N 0); records = [] }

  -- the cursor goes to its node's first child
  abbrev pub descended : Sheet E → Cursor → Sheet E
  descended s c = record { cursor = Some (record { node = child_address c.node 0; descents = c.descents + 1 }); records = s.records }

  -- a record is added, and the cursor advances
  abbrev pub recorded : Sheet E → Cursor → Option (Placement E) → Sheet E
  recorded s c laid = record { cursor = come_to (advance N c.node); records = s.records ++ (record { descents = c.descents; laid = laid } ∷ []) }

  -- a piece is recorded where the table has a placement
  abbrev pub placed_from : Entry E → Sheet E → Cursor → Result (Sheet E) Why
  placed_from (there p) s c = Ok (recorded s c (Some p))
  placed_from missing s c = Err no_node
  placed_from outside s c = Err off_plane

  -- descend: 11 where nothing is pending, 10 at the depth
  unfoldable pub descend : Sheet E → Result (Sheet E) Why
  descend s = at_cursor s.cursor (λ c. provided (nat_lt (level c.node) N.depth) wrong_level (Ok (descended s c)))

  -- lay, by an entry of the table, where so many places may be used: 11, 10 above the depth, 9 with no free place, 8
  unfoldable pub lay_by : ℕ → (Address → Entry E) → Sheet E → Result (Sheet E) Why
  lay_by places entry s = at_cursor s.cursor (λ c. provided (level c.node == N.depth) wrong_level (provided (nat_lt (length s.records) places) no_room (placed_from (entry c.node) s c)))

  abbrev pub lay : ℕ → Sheet E → Result (Sheet E) Why
  lay places s = lay_by places (table E N) s

  -- set aside, at any level: 11, 9
  unfoldable pub set_aside : ℕ → Sheet E → Result (Sheet E) Why
  set_aside places s = at_cursor s.cursor (λ c. provided (nat_lt (length s.records) places) no_room (Ok (recorded s c None)))

-- the cursor is at a node of the job, or nothing is left
abbrev pub AtNode : JobNumbers → Option Cursor → Type 0
AtNode N None = Unit {0}
AtNode N (Some c) = has_node N c.node ≡ true
