-- Runs: any calls on a new sheet, one after another, and which nodes they have laid and set aside.
use Rattle.std.specs.Prelude.{ℕ, List, [], ◌∷◌, ◌++◌, Some, None, Option, Ok, Err, Result}
use Rattle.exact.specs.Cyclotomic.{Cyclotomic}
use Rattle.exact.specs.JobNumbers.{JobNumbers}
use Rattle.chains.specs.Addresses.{Address, pending}
use Rattle.calls.specs.Limits.{most_pieces, usable}
use Rattle.calls.specs.Sheets.{Cursor, Sheet, Why, start}
use Rattle.calls.specs.Moves.{Move, descending, laying, setting_aside, moved}
use Rattle.files.specs.Files.{spelled}
use Rattle.files.specs.Calls.{Reason, about_nodes, save, resume}

-- a sheet, with the nodes that have been laid and those that have been set aside, in order
pub record State (E : Cyclotomic) : Type 0 where
  pub sheet : Sheet E
  pub laid : List Address
  pub aside : List Address

-- descend, lay or set aside; save into a buffer of so many bytes; resume from a file
pub data Call : Type 0 where
  moving : Move → Call
  saving : ℕ → Call
  resuming : List ℕ → Call

-- the cursor's node, if there is one
abbrev pub node_at : Option Cursor → Option Address
node_at None = None
node_at (Some c) = Some c.node

abbrev pub at_hand : Option Address → List Address
at_hand None = []
at_hand (Some a) = a ∷ []

module _ (E : Cyclotomic) (N : JobNumbers) where
  -- the nodes that are pending
  abbrev pub waiting : Sheet E → List Address
  waiting s = pending N (node_at s.cursor)

  unfoldable pub begun : State E
  begun = record { sheet = start E N; laid = []; aside = [] }

  -- what an accepted move does with the cursor's node
  abbrev pub noted : Move → State E → Sheet E → State E
  noted descending s t = record { sheet = t; laid = s.laid; aside = s.aside }
  noted laying s t = record { sheet = t; laid = s.laid ++ at_hand (node_at s.sheet.cursor); aside = s.aside }
  noted setting_aside s t = record { sheet = t; laid = s.laid; aside = s.aside ++ at_hand (node_at s.sheet.cursor) }

  -- a move, where so many places may be used
  abbrev pub noted_if : Move → State E → Result (Sheet E) Why → Result (State E) Reason
  noted_if m s (Ok t) = Ok (noted m s t)
  noted_if m s (Err w) = Err (about_nodes w)

  unfoldable pub done : ℕ → Move → State E → Result (State E) Reason
  done places m s = noted_if m s (moved E N places m s.sheet)

  -- several moves; those that are refused change nothing
  abbrev pub settled : {W : Type 0} → State E → Result (State E) W → State E
  settled s (Ok t) = t
  settled s (Err w) = s

  unfoldable pub retraced : ℕ → List Move → State E → State E
  retraced places [] s = s
  retraced places (m ∷ ms) s = retraced places ms (settled s (done places m s))

  -- a resumed sheet's nodes are those of the moves that its file spells
  abbrev pub resumed_as : List ℕ → Result (Sheet E) Reason → Result (State E) Reason
  resumed_as file (Ok t) = let u = retraced most_pieces (spelled E N file) begun in Ok (record { sheet = t; laid = u.laid; aside = u.aside })
  resumed_as file (Err w) = Err w

  abbrev pub saved_as : State E → Result (Sheet E) Reason → Result (State E) Reason
  saved_as s (Ok t) = Ok (record { sheet = t; laid = s.laid; aside = s.aside })
  saved_as s (Err w) = Err w

  -- a call on a sheet whose list has so many places
  unfoldable pub called : ℕ → Call → State E → Result (State E) Reason
  called room (moving m) s = done (usable room) m s
  called room (saving bytes) s = saved_as s (save E N bytes s.sheet)
  called room (resuming file) s = resumed_as file (resume E N (usable room) file)

  -- any calls, one after another; a refused one changes nothing
  unfoldable pub run : ℕ → List Call → State E → State E
  run room [] s = s
  run room (c ∷ cs) s = run room cs (settled s (called room c s))
