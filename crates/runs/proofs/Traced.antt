-- Every state of a run is retraced by moves that are all accepted.
use Rattle.std.proofs.Common.{◌≡◌, ℕ, ◌≤◌, Bool, true, false, if◌then◌else◌, nat_le, List, [], ◌∷◌, ◌++◌, length, map, Some, None, Option, Ok, Err, Result, sym, refl, ap, ◌∙◌, subst, leb-true, le-leb}
use Rattle.exact.specs.Cyclotomic.{Cyclotomic}
use Rattle.exact.specs.JobNumbers.{JobNumbers}
use Rattle.calls.specs.Limits.{most_pieces, usable}
use Rattle.calls.specs.Sheets.{Sheet, start, no_room}
use Rattle.calls.specs.Moves.{Move}
use Rattle.calls.proofs.Moving.{Replayed}
use Rattle.calls.proofs.Moving as moving
use Rattle.files.specs.Files.{saved, spelled, restored}
use Rattle.files.specs.Calls.{Reason, about_nodes, too_short, if_restored, save, resume}
use Rattle.files.proofs.Files as files
use Rattle.files.proofs.Resumed.{resume_means}
use Rattle.runs.specs.Runs.{State, Call, moving, saving, resuming, begun, done, settled, retraced, resumed_as, saved_as, called, run}
use Rattle.runs.specs.Law.{Unresumed}
use Rattle.runs.proofs.Noting as noting

module _ (E : Cyclotomic) (N : JobNumbers) where
  pub record Traced (places : ℕ) (s : State E) : Type 0 where
    pub moves : List Move
    pub way : Replayed E N places moves (start E N) s.sheet
    pub is : retraced E N places moves (begun E N) ≡ s

  pub traced_begun : (places : ℕ) → Traced places (begun E N)
  unfolding begun retraced
  traced_begun places = record { moves = []; way = moving.done (start E N); is = refl }

  pub traced_done : (places : ℕ) (m : Move) (s t : State E) → done E N places m s ≡ Ok t → Traced places s → Traced places t
  traced_done places m s t e k =
      let x = noting.done_means E N places m s t e in
      record {
        moves = k.moves ++ m ∷ [];
        way = subst (Replayed E N places (k.moves ++ m ∷ []) (start E N)) (sym (noting.noted_sheet E N m s x.0) ∙ ap (λ (z : State E). z.sheet) x.2)
            (moving.then E N places k.moves m (start E N) s.sheet x.0 k.way x.1);
        is = noting.retraced_then E N places k.moves m (begun E N) ∙ ap (λ z. settled E N z (done E N places m z)) k.is ∙ ap (settled E N s) e;
      }

  pub begun_sheet : (begun E N).sheet ≡ start E N
  unfolding begun
  begun_sheet = refl

  same_state : (s t : State E) → ◌≡◌ {A = Result (State E) Reason} (Ok s) (Ok t) → s ≡ t
  same_state s t e = cc

  -- ---- save leaves the state
  pub saving_keeps : (bytes : ℕ) (s t : State E) → saved_as E N s (save E N bytes s.sheet) ≡ Ok t → s ≡ t
  unfolding save
  saving_keeps bytes s t e = go (nat_le (length (saved E N s.sheet)) bytes) e
    where
      go : (b : Bool) → saved_as E N s (if b then Ok s.sheet else Err too_short) ≡ Ok t → s ≡ t
      go true e = cc
      go false e = absurd cc

  -- ---- an accepted resume
  -- where a file leads, its moves lead
  pub resumed_means : (places : ℕ) (file : List ℕ) (t : State E) → resumed_as E N file (resume E N places file) ≡ Ok t →
      (restored E N file ≡ Some t.sheet) × (length t.sheet.records ≤ places) × (retraced E N most_pieces (spelled E N file) (begun E N) ≡ t)
  resumed_means places file t e = go (resume E N places file) refl e
    where
      go : (r : Result (Sheet E) Reason) → resume E N places file ≡ r → resumed_as E N file r ≡ Ok t →
          (restored E N file ≡ Some t.sheet) × (length t.sheet.records ≤ places) × (retraced E N most_pieces (spelled E N file) (begun E N) ≡ t)
      go (Err w) f e = absurd cc
      go (Ok v) f e =
          let x = resume_means E N places file v f in
          let u : State E = retraced E N most_pieces (spelled E N file) (begun E N) in
          let q : u.sheet ≡ v = noting.retraced_sheet E N most_pieces (spelled E N file) (start E N) v (files.is_restored E N file v x.0).0 (begun E N) begun_sheet in
          let whole : record { sheet = v; laid = u.laid; aside = u.aside } ≡ t = same_state _ t e in
          let own : v ≡ t.sheet = ap (λ (z : State E). z.sheet) whole in
          (x.0 ∙ ap Some own, subst (λ (z : Sheet E). length z.records ≤ places) own x.1, (λ i. record { sheet = q i; laid = u.laid; aside = u.aside }) ∙ whole)

  -- and a file with room for its records is resumed
  pub resumes : (places : ℕ) (file : List ℕ) (t : State E) → restored E N file ≡ Some t.sheet → length t.sheet.records ≤ places → retraced E N most_pieces (spelled E N file) (begun E N) ≡ t →
      resumed_as E N file (resume E N places file) ≡ Ok t
  unfolding resume
  resumes places file t e room q =
      ap (λ o. resumed_as E N file (if_restored E N places file o)) e
      ∙ ap (λ b. resumed_as E N file (if b then Ok t.sheet else Err (about_nodes no_room))) (le-leb _ _ room)
      ∙ ap (λ (u : State E). Ok (record { sheet = t.sheet; laid = u.laid; aside = u.aside })) q

  -- ---- what any call and any run lead to
  pub traced_resumed : (places : ℕ) (file : List ℕ) (t : State E) → resumed_as E N file (resume E N places file) ≡ Ok t → Traced places t
  traced_resumed places file t e =
      let x = resumed_means places file t e in
      let way = (files.is_restored E N file t.sheet x.0).0 in
      record {
        moves = spelled E N file;
        way = moving.all_fit E N most_pieces places (spelled E N file) (start E N) t.sheet way x.1;
        is = noting.retraced_alike E N most_pieces places (spelled E N file) (start E N) t.sheet way x.1 (begun E N) begun_sheet ∙ x.2;
      }

  traced_call : (room : ℕ) (c : Call) (s t : State E) → called E N room c s ≡ Ok t → Traced (usable room) s → Traced (usable room) t
  unfolding called
  traced_call room (moving m) s t e k = traced_done (usable room) m s t e k
  traced_call room (saving bytes) s t e k = subst (Traced (usable room)) (saving_keeps bytes s t e) k
  traced_call room (resuming file) s t e k = traced_resumed (usable room) file t e

  traced_settled : (room : ℕ) (c : Call) (s : State E) → Traced (usable room) s → Traced (usable room) (settled E N s (called E N room c s))
  traced_settled room c s k = go (called E N room c s) refl
    where
      go : (r : Result (State E) Reason) → called E N room c s ≡ r → Traced (usable room) (settled E N s r)
      go (Ok t) e = traced_call room c s t e k
      go (Err w) e = k

  pub traced_run : (room : ℕ) (calls : List Call) (s : State E) → Traced (usable room) s → Traced (usable room) (run E N room calls s)
  unfolding run
  traced_run room [] s k = k
  traced_run room (c ∷ cs) s k = traced_run room cs (settled E N s (called E N room c s)) (traced_settled room c s k)

  -- ---- moves, as calls
  pub runs_moves : (room : ℕ) (ms : List Move) (s : State E) → run E N room (map moving ms) s ≡ retraced E N (usable room) ms s
  unfolding run retraced called
  runs_moves room [] s = refl
  runs_moves room (m ∷ ms) s = runs_moves room ms (settled E N s (done E N (usable room) m s))

  pub unresumed : (ms : List Move) → Unresumed (map moving ms)
  unresumed [] = tt
  unresumed (m ∷ ms) = unresumed ms
