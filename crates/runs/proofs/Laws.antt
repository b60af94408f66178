-- The laws of runs.
use Rattle.std.proofs.Common.{◌≡◌, ℕ, ◌<◌, ◌≤◌, List, length, map, Some, None, Option, Ok, Err, Result, sym, refl, ap, ◌∙◌, subst, arith}
use Rattle.std.specs.List.{AllByRecursion}
use Rattle.exact.specs.Cyclotomic.{Cyclotomic, CyclotomicLaws}
use Rattle.exact.specs.Groups.{AbelianGroup, AbelianLaws}
use Rattle.exact.specs.JobNumbers.{JobNumbers}
use Rattle.chains.specs.Books.{book_of}
use Rattle.chains.specs.Edges.{Edge, ReadsEdges}
use Rattle.chains.specs.Accepted.{Accepted}
use Rattle.ring_jobs.specs.Shapes.{Branching}
use Rattle.calls.specs.Limits.{most_pieces, usable}
use Rattle.calls.specs.Sheets.{Sheet, start, no_room}
use Rattle.calls.specs.Moves.{Move}
use Rattle.calls.proofs.Moving.{Replayed}
use Rattle.files.specs.Files.{last_byte, saved, spelled, restored}
use Rattle.files.specs.Calls.{Reason, about_nodes, no_save, offset_in, resume}
use Rattle.files.specs.Judging.{judged}
use Rattle.files.proofs.Files as files
use Rattle.files.proofs.Places as places
use Rattle.files.proofs.Reading as reading
use Rattle.files.proofs.Kept as kept
use Rattle.files.proofs.Kept.{Kept, record_calls}
use Rattle.runs.specs.Runs.{State, Call, moving as moving_on, begun, retraced, resumed_as, called, run}
use Rattle.runs.specs.Law.{Unresumed, BoundaryConserved, ReadingConserved, ReadsAsTheSeed, ResumesTheLawful, RefusesTheOthers, TellsWhereItIsBad, NodesKept}
use Rattle.runs.proofs.Noting as noting
use Rattle.runs.proofs.Telling as telling
use Rattle.runs.proofs.Refusing as refusing
use Rattle.runs.proofs.Traced as traced
use Rattle.runs.proofs.Traced.{Traced}
use Rattle.runs.proofs.Sound as sound
use Rattle.runs.proofs.Sound.{Sound}

small_room : (room : ℕ) → usable room ≤ most_pieces
small_room room = omega arith

module _ (E : Cyclotomic) (N : JobNumbers) where
  traced_run : (room : ℕ) (calls : List Call) → Traced E N (usable room) (run E N room calls (begun E N))
  traced_run room calls = traced.traced_run E N room calls (begun E N) (traced.traced_begun E N (usable room))

  -- what calls retrace, they reach
  reruns : (room : ℕ) (s : State E) (k : Traced E N (usable room) s) → run E N room (map moving_on k.moves) (begun E N) ≡ s
  reruns room s k = traced.runs_moves E N room k.moves (begun E N) ∙ k.is

  pub no_resume_needed : (room : ℕ) (calls : List Call) → (others : List Call) × Unresumed others × (run E N room others (begun E N) ≡ run E N room calls (begun E N))
  no_resume_needed room calls =
      let k = traced_run room calls in
      (map moving_on k.moves, traced.unresumed E N k.moves, reruns room _ k)

module _ (E : Cyclotomic) (N : JobNumbers) (B : Branching N) where
  sound_run : (room : ℕ) (calls : List Call) → Sound E N (run E N room calls (begun E N))
  sound_run room calls =
      let k = traced_run E N room calls in
      subst (Sound E N) k.is (sound.sound_retraced E N B (usable room) k.moves (begun E N) (sound.sound_start E N))

  pub nodes_kept : (room : ℕ) (calls : List Call) → NodesKept E N (run E N room calls (begun E N))
  nodes_kept room calls = sound.sound_nodes E N _ (sound_run room calls)

  kept_run : (room : ℕ) (s : State E) → Traced E N (usable room) s → Kept E N (usable room) s.sheet
  kept_run room s k = kept.kept_replay E N B.shallow (usable room) k.moves (start E N) s.sheet k.way (kept.kept_start E N (usable room))

  -- moves that lead to one sheet lead to one state
  same_trace : (room q : ℕ) (ms : List Move) (s : State E) → Traced E N (usable room) s → length s.sheet.records ≤ q → Replayed E N q ms (start E N) s.sheet → retraced E N q ms (begun E N) ≡ s
  same_trace room q ms s k l way =
      ap (λ ns. retraced E N q ns (begun E N)) (telling.same_calls E N q (usable room) ms k.moves s.sheet way k.way)
      ∙ noting.retraced_alike E N (usable room) q k.moves (start E N) s.sheet k.way l (begun E N) (traced.begun_sheet E N)
      ∙ k.is

  pub telling_all : (room more : ℕ) (calls others : List Call) →
      (run E N room calls (begun E N)).sheet.records ≡ (run E N more others (begun E N)).sheet.records →
      last_byte (run E N room calls (begun E N)).sheet.cursor ≡ last_byte (run E N more others (begun E N)).sheet.cursor →
      run E N room calls (begun E N) ≡ run E N more others (begun E N)
  telling_all room more calls others e f =
      let s = run E N room calls (begun E N) in
      let t = run E N more others (begun E N) in
      let k = traced_run E N room calls in
      let h = traced_run E N more others in
      let same : k.moves ≡ h.moves = sym (telling.told_by E N (usable room) k.moves s.sheet k.way) ∙ telling.told_alike s.sheet t.sheet e f ∙ telling.told_by E N (usable more) h.moves t.sheet h.way in
      sym k.is
      ∙ ap (λ ms. retraced E N (usable room) ms (begun E N)) same
      ∙ noting.retraced_alike E N (usable more) (usable room) h.moves (start E N) t.sheet h.way (subst (λ rs. length rs ≤ usable room) e (kept_run room s k).fits) (begun E N) (traced.begun_sheet E N)
      ∙ h.is

module _ (E : Cyclotomic) (L : CyclotomicLaws E) (N : JobNumbers) (B : Branching N) where
  pub conserving : Accepted E (book_of E N) → (room : ℕ) (calls : List Call) → BoundaryConserved E N (run E N room calls (begun E N))
  conserving A room calls = sound.sound_conserves E L N A (run E N room calls (begun E N)) (sound_run E N B room calls)

  pub reading_conserved : Accepted E (book_of E N) → (G : AbelianGroup) → AbelianLaws G → (r : Edge E → G.Val) → ReadsEdges E (book_of E N) G r →
      (room : ℕ) (calls : List Call) → ReadingConserved E N G r (run E N room calls (begun E N)) × ReadsAsTheSeed E N G r (run E N room calls (begun E N))
  reading_conserved A G M r R room calls =
      let k = sound_run E N B room calls in
      (sound.sound_reads E L N A _ k G M r R, sound.sound_ends E L N A _ k G M r R)

  -- what the state of a run writes leads back to its sheet
  writes_back : (room : ℕ) (s : State E) → Traced E N (usable room) s → restored E N (saved E N s.sheet) ≡ Some s.sheet
  writes_back room s k = files.restores E L N (usable room) s.sheet (small_room room) (kept_run E N B room s k)

  pub resuming_lawful : (room : ℕ) (s : State E) → ResumesTheLawful E N room s
  unfolding called
  resuming_lawful room s file t = (there, back)
    where
      there : resumed_as E N file (resume E N (usable room) file) ≡ Ok t → (calls : List Call) × Unresumed calls × (run E N room calls (begun E N) ≡ t) × (saved E N t.sheet ≡ file)
      there e =
          let k = traced.traced_resumed E N (usable room) file t e in
          (map moving_on k.moves, traced.unresumed E N k.moves, reruns E N room t k, (files.is_restored E N file t.sheet (traced.resumed_means E N (usable room) file t e).0).1)

      back : (calls : List Call) × Unresumed calls × (run E N room calls (begun E N) ≡ t) × (saved E N t.sheet ≡ file) → resumed_as E N file (resume E N (usable room) file) ≡ Ok t
      back x =
          let k = subst (Traced E N (usable room)) x.2 (traced_run E N room x.0) in
          let fits = (kept_run E N B room t k).fits in
          let e = subst (λ f. restored E N f ≡ Some t.sheet) x.3 (writes_back room t k) in
          traced.resumes E N (usable room) file t e fits (same_trace E N B room most_pieces (spelled E N file) t k (omega (arith, fits, small_room room)) (files.is_restored E N file t.sheet e).0)

  -- a file that leads to a sheet, on a list with all places
  reached_by : (file : List ℕ) (u : Sheet E) → restored E N file ≡ Some u → (run E N most_pieces (map moving_on (spelled E N file)) (begun E N)).sheet ≡ u
  reached_by file u e =
      ap (λ (z : State E). z.sheet) (traced.runs_moves E N most_pieces (spelled E N file) (begun E N))
      ∙ noting.retraced_sheet E N most_pieces (spelled E N file) (start E N) u (files.is_restored E N file u e).0 (begun E N) (traced.begun_sheet E N)

  saved_by : (file : List ℕ) (u : Sheet E) → restored E N file ≡ Some u → saved E N (run E N most_pieces (map moving_on (spelled E N file)) (begun E N)).sheet ≡ file
  saved_by file u e = ap (saved E N) (reached_by file u e) ∙ (files.is_restored E N file u e).1

  leads_back : (longer : ℕ) (calls : List Call) (file : List ℕ) → saved E N (run E N longer calls (begun E N)).sheet ≡ file → restored E N file ≡ Some (run E N longer calls (begun E N)).sheet
  leads_back longer calls file e = subst (λ f. restored E N f ≡ Some (run E N longer calls (begun E N)).sheet) e (writes_back longer _ (traced_run E N longer calls))

  pub refusing_others : (room : ℕ) (s : State E) → RefusesTheOthers E N room s
  unfolding called
  refusing_others room s file = ((bad, none), (long, short))
    where
      bad : (offset : ℕ) × (resumed_as E N file (resume E N (usable room) file) ≡ Err (no_save offset)) → (longer : ℕ) (calls : List Call) → Unresumed calls →
          saved E N (run E N longer calls (begun E N)).sheet ≡ file → ⊥
      bad x longer calls u e = let f = sym (refusing.bad_only E N (usable room) file x.0 x.1) ∙ leads_back longer calls file e in absurd cc

      none : ((longer : ℕ) (calls : List Call) → Unresumed calls → saved E N (run E N longer calls (begun E N)).sheet ≡ file → ⊥) →
          (offset : ℕ) × (resumed_as E N file (resume E N (usable room) file) ≡ Err (no_save offset))
      none h = (offset_in E N (judged E N file), refusing.refuses_bad E N (usable room) file (nowhere (restored E N file) refl))
        where
          nowhere : (o : Option (Sheet E)) → restored E N file ≡ o → restored E N file ≡ None
          nowhere None f = f
          nowhere (Some u) f = absurd (h most_pieces (map moving_on (spelled E N file)) (traced.unresumed E N (spelled E N file)) (saved_by file u f))

      long : resumed_as E N file (resume E N (usable room) file) ≡ Err (about_nodes no_room) →
          (longer : ℕ) × (calls : List Call) × Unresumed calls × (saved E N (run E N longer calls (begun E N)).sheet ≡ file) × (usable room < length (run E N longer calls (begun E N)).sheet.records)
      long e =
          let x = refusing.long_only E N (usable room) file e in
          (most_pieces, map moving_on (spelled E N file), traced.unresumed E N (spelled E N file), saved_by file x.0 x.1, subst (λ (z : Sheet E). usable room < length z.records) (sym (reached_by file x.0 x.1)) x.2)

      short : (longer : ℕ) × (calls : List Call) × Unresumed calls × (saved E N (run E N longer calls (begun E N)).sheet ≡ file) × (usable room < length (run E N longer calls (begun E N)).sheet.records) →
          resumed_as E N file (resume E N (usable room) file) ≡ Err (about_nodes no_room)
      short x = refusing.refuses_long E N (usable room) file _ (leads_back x.0 x.1 file x.3) x.4

  -- a refusal for what the file is tells where it is judged bad
  judged_bad : (places : ℕ) (file : List ℕ) (offset : ℕ) → AllByRecursion (λ b. b < 256) file → resumed_as E N file (resume E N places file) ≡ Err (no_save offset) → judged E N file ≡ Err offset
  judged_bad places file offset bytes e = go (judged E N file) refl
    where
      none : restored E N file ≡ None
      none = refusing.bad_only E N places file offset e

      same : (a b : ℕ) → ◌≡◌ {A = Result (State E) Reason} (Err (no_save a)) (Err (no_save b)) → a ≡ b
      same a b f = cc

      go : (r : Result (Sheet E) ℕ) → judged E N file ≡ r → judged E N file ≡ Err offset
      go (Ok t) f = let h = sym none ∙ (reading.judging E L N B.shallow file bytes t).0 f in absurd cc
      go (Err o) f = f ∙ ap Err (sym (ap (offset_in E N) f) ∙ same _ offset (sym (refusing.refuses_bad E N places file none) ∙ e))

  pub telling_where : (room : ℕ) (s : State E) → TellsWhereItIsBad E N room s
  unfolding called
  telling_where room s file offset bytes e = places.placing E N B.shallow file offset (judged_bad (usable room) file offset bytes e)
