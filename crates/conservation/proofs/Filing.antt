-- A call on a sheet does what the run's call does: save and resume.
use Rattle.std.proofs.Common.{◌≡◌, ℕ, ◌≤◌, Bool, true, false, if◌then◌else◌, nat_le, List, ◌++◌, length, drop, Option, Ok, Err, Result, MatchResult, sym, refl, ap, ◌∙◌, subst, arith, le-leb}
use Rattle.std.specs.List.{AllByRecursion}
use Rattle.exact.specs.Cyclotomic.{Cyclotomic}
use Rattle.exact.specs.JobNumbers.{JobNumbers}
use Rattle.calls.specs.Limits.{usable}
use Rattle.calls.specs.Records.{Record}
use Rattle.calls.specs.Sheets.{Sheet, no_room}
use Rattle.calls.specs.Fits.{Fits, ListUnfit}
use Rattle.calls.proofs.Firsts.{no_first}
use Rattle.calls.specs.declared.fault.ListFault.{ListFault}
use Rattle.calls.specs.declared.fault.ListFault.TheVariants.{Short, BeyondLimits, Ring}
use Rattle.files.specs.Files.{saved}
use Rattle.files.specs.Calls.{Reason, about_nodes, no_save, too_short, save, resume}
use Rattle.saves.specs.declared.fault.FileFault.TheVariants.{NotASave}
use Rattle.runs.specs.Runs.{State, saving, resuming, saved_as, resumed_as, called, settled}
use Rattle.sheet.specs.Files.{NotSaved, NotResumed}
use Rattle.sheet.specs.declared.fault.SheetFault.{SheetFault}
use Rattle.sheet.specs.declared.fault.SheetFault.TheVariants as sheets
use Rattle.conservation.specs.declared.answer.Answer.{Answer}
use Rattle.conservation.specs.declared.answer.Answer.TheVariants.{Went, Saved, Refused}
use Rattle.conservation.specs.Answered.{told, reason_fault, Answers, written, Does}
use Rattle.std.proofs.lemmas.List.{length-drop}
use Rattle.std.proofs.Common.{length-append, leb-true, ℤ, take}
use Rattle.std.proofs.lemmas.List.{length-map, length-take}
use Rattle.calls.specs.Records.{records, row_view}
use Rattle.calls.specs.Views.{sheet_of}
use Rattle.calls.specs.declared.row.Row.{Row}
use Rattle.calls.specs.declared.cursor.Cursor.{Cursor}

true_not_false : true ≡ false → ⊥
true_not_false e = cc

-- what is told of a save
abbrev pub told_save : {S : Type 0} → Result ℕ (SheetFault S) → Answer S
told_save (Ok n) = Saved n
told_save (Err f) = Refused f

-- ---- records that fit are not refused
module _ (E : Cyclotomic) (N : JobNumbers) (rs : List (Record E)) where
  all_read : (places : ℕ) (f : ListFault) → length rs ≤ places → AllByRecursion (Fits E N) rs → ListUnfit E N places (length rs) rs f → ⊥
  all_read places (Short f) l h u = omega arith
  all_read places BeyondLimits l h u = no_first E N rs BeyondLimits h u.1
  all_read places (Ring f) l h u = no_first E N rs (Ring f) h u.1

module _ {S : Type 0} (E : Cyclotomic) (v : S → E.Elem) (N : JobNumbers) (room : ℕ) where
  -- ---- save
  -- what a save answers and writes
  abbrev SaveAnswers : Sheet E → ℕ → List ℕ → List ℕ → Result ℕ (SheetFault S) → Type 0
  SaveAnswers old count buffer buffer' r = MatchResult r (λ n. (n ≡ length (saved E N old)) × (buffer' ≡ saved E N old ++ drop n buffer) × (length old.records ≡ count) × AllByRecursion (Fits E N) old.records)
      (λ f. NotSaved E N room count (length buffer) old f × (buffer' ≡ buffer))

  -- what the run's save does
  abbrev SaveDoes : ℕ → State E → ℕ → List ℕ → List ℕ → Result (State E) Reason → Answer S → Type 0
  SaveDoes bytes s count buffer buffer' q a = ((settled E N s q).sheet ≡ s.sheet) × (length (settled E N s q).sheet.records ≡ count) × Answers E v N (saving bytes) s q a × (buffer' ≡ written E v N (saving bytes) s q buffer)

  abbrev by_room : State E → Bool → Result (State E) Reason
  by_room s true = Ok (record { sheet = s.sheet; laid = s.laid; aside = s.aside })
  by_room s false = Err too_short

  module _ (bytes : ℕ) (s : State E) (count : ℕ) (buffer buffer' : List ℕ) (b : bytes ≡ length buffer) (counted : length s.sheet.records ≡ count) (places : count ≤ room) (same : length buffer' ≡ length buffer) (fits : AllByRecursion (Fits E N) s.sheet.records) where
    long : ℕ
    long = length (saved E N s.sheet)

    -- the file fits where the buffer is as long afterwards
    has_room : (n : ℕ) → n ≡ length (saved E N s.sheet) → buffer' ≡ saved E N s.sheet ++ drop n buffer → length (saved E N s.sheet) ≤ length buffer
    has_room n e f = omega (arith, e, same, ap length f, length-append (saved E N s.sheet) (drop n buffer), length-drop n buffer)

    save_case : (r : Result ℕ (SheetFault S)) → SaveAnswers s.sheet count buffer buffer' r → (t : Bool) → nat_le (length (saved E N s.sheet)) bytes ≡ t → SaveDoes bytes s count buffer buffer' (by_room s t) (told_save r)
    save_case (Ok n) d true e = (refl, counted, ap Saved d.0, d.1 ∙ ap (λ k. saved E N s.sheet ++ drop k buffer) d.0)
    save_case (Ok n) d false e = let l = has_room n d.0 d.1 in let m : nat_le (length (saved E N s.sheet)) bytes ≡ true = le-leb _ _ (omega arith) in absurd (true_not_false (sym m ∙ e))
    save_case (Err (sheets.List f)) d t e = absurd (all_read E N s.sheet.records room f (omega arith) fits (subst (λ k. ListUnfit E N room k s.sheet.records f) (sym counted) d.0))
    save_case (Err (sheets.Buffer f)) d true e = let l = leb-true _ _ e in let m = d.0.2 in absurd (omega arith)
    save_case (Err (sheets.Buffer f)) d false e = (refl, counted, refl, d.1)
    save_case (Err (sheets.File f)) d t e = absurd d.0
    save_case (Err sheets.NoRoom) d t e = absurd d.0
    save_case (Err sheets.WrongLevel) d t e = absurd d.0
    save_case (Err sheets.NothingPending) d t e = absurd d.0
    save_case (Err sheets.StillPending) d t e = absurd d.0
    save_case (Err (sheets.Check f)) d t e = absurd d.0
    save_case (Err (sheets.Place f)) d t e = absurd d.0

    called_so : (t : Bool) → nat_le (length (saved E N s.sheet)) bytes ≡ t → called E N room (saving bytes) s ≡ by_room s t
    unfolding called save
    called_so true e = ap (λ t. saved_as E N s (if t then Ok s.sheet else Err too_short)) e
    called_so false e = ap (λ t. saved_as E N s (if t then Ok s.sheet else Err too_short)) e

    pub save_run : (r : Result ℕ (SheetFault S)) → SaveAnswers s.sheet count buffer buffer' r → SaveDoes bytes s count buffer buffer' (called E N room (saving bytes) s) (told_save r)
    save_run r d =
        let t = nat_le (length (saved E N s.sheet)) bytes in
        subst (λ q. SaveDoes bytes s count buffer buffer' q (told_save r)) (sym (called_so t refl)) (save_case r d t refl)

  pub save_does : (bytes : ℕ) (r : Result ℕ (SheetFault S)) (old new : Sheet E) (count count' : ℕ) (buffer buffer' : List ℕ) → bytes ≡ length buffer → (length old.records ≡ count → count ≤ room) → length buffer' ≡ length buffer →
      new ≡ old → count' ≡ count → SaveAnswers old count buffer buffer' r → Does E v N room (saving bytes) (told_save r) old new count count' buffer buffer'
  save_does bytes r old new count count' buffer buffer' b places same f k d s e n fits =
      let counted : length s.sheet.records ≡ count = n in
      let x = save_run bytes s count buffer buffer' b counted (places (sym (ap (λ (z : Sheet E). length z.records) e) ∙ n)) same fits r (subst (λ o. SaveAnswers o count buffer buffer' r) (sym e) d) in
      (x.0 ∙ e ∙ sym f, x.1 ∙ sym k, x.2, x.3)

  -- ---- resume
  abbrev pub ResumeAnswers : List ℕ → Sheet E → Sheet E → ℕ → ℕ → Result (Unit {0}) (SheetFault S) → Type 0
  ResumeAnswers file old new count count' r = MatchResult r (λ _. (resume E N (usable room) file ≡ Ok new) × (length new.records ≡ count')) (λ f. NotResumed E N (usable room) file f × (new ≡ old) × (count' ≡ count))

  abbrev ResumeDoes : List ℕ → State E → Sheet E → ℕ → List ℕ → Result (State E) Reason → Answer S → Type 0
  ResumeDoes file s new count' buffer q a = ((settled E N s q).sheet ≡ new) × (length (settled E N s q).sheet.records ≡ count') × Answers E v N (resuming file) s q a × (buffer ≡ written E v N (resuming file) s q buffer)

  module _ (file : List ℕ) (s : State E) (new : Sheet E) (count count' : ℕ) (buffer : List ℕ) (counted : length s.sheet.records ≡ count) where
    resumed_to : (q : Result (Sheet E) Reason) → q ≡ Ok new → length new.records ≡ count' → ResumeDoes file s new count' buffer (resumed_as E N file q) Went
    resumed_to q e n = subst (λ q. ResumeDoes file s new count' buffer (resumed_as E N file q) Went) (sym e) (refl, n, refl, refl)

    refused_so : (q : Result (Sheet E) Reason) (w : Reason) → q ≡ Err w → new ≡ s.sheet → count' ≡ count → ResumeDoes file s new count' buffer (resumed_as E N file q) (Refused (reason_fault w))
    refused_so q w e f k = subst (λ q. ResumeDoes file s new count' buffer (resumed_as E N file q) (Refused (reason_fault w))) (sym e) (sym f, counted ∙ sym k, refl, refl)

    resume_case : (r : Result (Unit {0}) (SheetFault S)) → ResumeAnswers file s.sheet new count count' r → ResumeDoes file s new count' buffer (resumed_as E N file (resume E N (usable room) file)) (told r)
    resume_case (Ok a) d = resumed_to (resume E N (usable room) file) d.0 d.1
    resume_case (Err (sheets.File (NotASave offset))) d = refused_so (resume E N (usable room) file) (no_save offset) d.0 d.1 d.2
    resume_case (Err sheets.NoRoom) d = refused_so (resume E N (usable room) file) (about_nodes no_room) d.0 d.1 d.2
    resume_case (Err sheets.WrongLevel) d = absurd d.0
    resume_case (Err sheets.NothingPending) d = absurd d.0
    resume_case (Err sheets.StillPending) d = absurd d.0
    resume_case (Err (sheets.Check f)) d = absurd d.0
    resume_case (Err (sheets.Place f)) d = absurd d.0
    resume_case (Err (sheets.List f)) d = absurd d.0
    resume_case (Err (sheets.Buffer f)) d = absurd d.0

  pub resume_does : (file : List ℕ) (r : Result (Unit {0}) (SheetFault S)) (old new : Sheet E) (count count' : ℕ) (buffer : List ℕ) →
      ResumeAnswers file old new count count' r → Does E v N room (resuming file) (told r) old new count count' buffer buffer
  unfolding called
  resume_does file r old new count count' buffer d s e n fits = resume_case file s new count count' buffer n r (subst (λ o. ResumeAnswers file o new count count' r) (sym e) d)

-- a list has the rows that a sheet has records
pub counted_in : (E : Cyclotomic) {C : Type 0} (listed : C → List ℤ) (count : ℕ) (rows : List (Row C)) → length (records E listed count rows) ≡ count → count ≤ length rows
counted_in E listed count rows e = omega (arith, e, length-map (take count rows) (row_view E listed), length-take count rows)

-- what a resume answers, of the sheet that a cursor, a count and a list stand for
pub resumed_answers : {S C : Type 0} (E : Cyclotomic) (v : S → E.Elem) (N : JobNumbers) (listed : C → List ℤ) (room : ℕ) (file : List ℕ) (r : Result (Unit {0}) (SheetFault S)) (cursor cursor' : Option Cursor) (count count' : ℕ) (rows rows' : List (Row C)) →
    MatchResult r (λ _. (resume E N (usable room) file ≡ Ok (sheet_of E listed cursor' count' rows')) × (length (sheet_of E listed cursor' count' rows').records ≡ count') × (drop count' rows' ≡ drop count' rows))
    (λ f. NotResumed E N (usable room) file f × (rows' ≡ rows) × (count' ≡ count) × (cursor' ≡ cursor)) →
    ResumeAnswers E v N room file (sheet_of E listed cursor count rows) (sheet_of E listed cursor' count' rows') count count' r
resumed_answers E v N listed room file (Ok a) cursor cursor' count count' rows rows' d = (d.0, d.1)
resumed_answers E v N listed room file (Err f) cursor cursor' count count' rows rows' d = (d.0, (λ i. sheet_of E listed (d.3 i) (d.2 i) (d.1 i)), d.2)
