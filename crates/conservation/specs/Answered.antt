-- What the calls of a run are, and what they answer.
use Rattle.std.specs.Prelude.{◌≡◌, ℕ, List, [], ◌∷◌, ◌++◌, length, drop, Some, Ok, Err, Result}
use Rattle.std.specs.List.{AllByRecursion}
use Rattle.exact.specs.Cyclotomic.{Cyclotomic}
use Rattle.exact.specs.JobNumbers.{JobNumbers}
use Rattle.job_rows.specs.declared.Placed.{Placed}
use Rattle.edges.specs.Views.{placement_view}
use Rattle.calls.specs.Sheets.{Sheet}
use Rattle.calls.specs.Fits.{Fits}
use Rattle.calls.specs.Moves.{descending, laying, setting_aside}
use Rattle.files.specs.Files.{saved}
use Rattle.files.specs.Calls.{Reason, about_nodes, no_save, too_short}
use Rattle.saves.specs.declared.fault.FileFault.TheVariants.{NotASave}
use Rattle.runs.specs.Runs as runs
use Rattle.runs.specs.Runs.{State, moving, saving, resuming, begun, called, settled, run}
use Rattle.sheet.specs.Answers.{fault}
use Rattle.sheet.specs.declared.fault.SheetFault.{SheetFault}
use Rattle.sheet.specs.declared.fault.SheetFault.TheVariants.{File, Buffer}
use Rattle.conservation.specs.declared.call.Call.{Call}
use Rattle.conservation.specs.declared.call.Call.TheVariants.{Descend, Lay, SetAside, Save, Resume}
use Rattle.conservation.specs.declared.answer.Answer.{Answer}
use Rattle.conservation.specs.declared.answer.Answer.TheVariants.{Went, Laid, Saved, Refused}

-- a call, where saves go into a buffer of so many bytes
abbrev pub call_view : ℕ → Call → runs.Call
call_view bytes Descend = moving descending
call_view bytes Lay = moving laying
call_view bytes SetAside = moving setting_aside
call_view bytes Save = saving bytes
call_view bytes (Resume file) = resuming file.now

-- the fault that tells why a call refuses
abbrev pub reason_fault : {S : Type 0} → Reason → SheetFault S
reason_fault (about_nodes w) = fault w
reason_fault (no_save offset) = File (NotASave offset)
reason_fault too_short = Buffer (record {})

-- what is told of a call that answers nothing but that it was accepted
abbrev pub told : {S : Type 0} → Result (Unit {0}) (SheetFault S) → Answer S
told (Ok x) = Went
told (Err f) = Refused f

module _ {S : Type 0} (E : Cyclotomic) (value : S → E.Elem) (N : JobNumbers) where
  -- what an accepted call answers: lay, where the piece that it recorded lies; save, the length of the file
  abbrev pub Accepted : runs.Call → State E → State E → Answer S → Type 0
  Accepted (moving descending) s t a = a ≡ Went
  Accepted (moving laying) s t a = (p : Placed S) × (d : ℕ) × (a ≡ Laid p) × (t.sheet.records ≡ s.sheet.records ++ (record { descents = d; laid = Some (placement_view E value p) } ∷ []))
  Accepted (moving setting_aside) s t a = a ≡ Went
  Accepted (saving bytes) s t a = a ≡ Saved (length (saved E N s.sheet))
  Accepted (resuming file) s t a = a ≡ Went

  -- what any call answers
  abbrev pub Answers : runs.Call → State E → Result (State E) Reason → Answer S → Type 0
  Answers c s (Ok t) a = Accepted c s t a
  Answers c s (Err w) a = a ≡ Refused (reason_fault w)

  -- the buffer after a call: an accepted save writes the file in front of it
  abbrev pub written : runs.Call → State E → Result (State E) Reason → List ℕ → List ℕ
  written (saving bytes) s (Ok t) b = saved E N s.sheet ++ drop (length (saved E N s.sheet)) b
  written (saving bytes) s (Err w) b = b
  written (moving m) s r b = b
  written (resuming file) s r b = b

  -- A call on a sheet does what the run's call does to every state with that sheet: the sheet that it leaves, its answer and the buffer
  -- are the run's. The list's rows are records that can be read, and are counted.
  abbrev pub Does : ℕ → runs.Call → Answer S → Sheet E → Sheet E → ℕ → ℕ → List ℕ → List ℕ → Type 0
  Does room c a old new count count' buffer buffer' = (s : State E) → s.sheet ≡ old → length s.sheet.records ≡ count → AllByRecursion (Fits E N) s.sheet.records →
      let r = called E N room c s in
      ((settled E N s r).sheet ≡ new) × (length (settled E N s r).sheet.records ≡ count') × Answers c s r a × (buffer' ≡ written c s r buffer)

  -- ---- calls one after another
  -- their answers
  abbrev pub EachAnswered : ℕ → State E → List runs.Call → List (Answer S) → Type 0
  EachAnswered room s [] answers = Unit {0}
  EachAnswered room s (c ∷ cs) [] = ⊥
  EachAnswered room s (c ∷ cs) (a ∷ answers) = Answers c s (called E N room c s) a × EachAnswered room (settled E N s (called E N room c s)) cs answers

  -- and the buffer after them
  unfoldable pub buffer_after : ℕ → State E → List runs.Call → List ℕ → List ℕ
  buffer_after room s [] b = b
  buffer_after room s (c ∷ cs) b = buffer_after room (settled E N s (called E N room c s)) cs (written c s (called E N room c s) b)

  -- Calls on a new sheet lead to a sheet with so many records, and are answered, as the run of these calls is; and the buffer is as the
  -- saves among them leave it.
  pub record Makes (room : ℕ) (calls : List runs.Call) (sheet : Sheet E) (count : ℕ) (answers : List (Answer S)) (buffer buffer' : List ℕ) : Type 0 where
    pub leads : (run E N room calls (begun E N)).sheet ≡ sheet
    pub counted : length sheet.records ≡ count
    pub answered : EachAnswered room (begun E N) calls answers
    pub saved_so : buffer' ≡ buffer_after room (begun E N) calls buffer
