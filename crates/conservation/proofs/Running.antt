-- Calls one after another: one call more.
use Rattle.std.proofs.Common.{◌≡◌, ℕ, List, [], ◌∷◌, ◌++◌, length, refl, sym, ap, ◌∙◌, arith}
use Rattle.std.specs.List.{AllByRecursion}
use Rattle.std.proofs.ByRecursion.{All-weaker}
use Rattle.exact.specs.Cyclotomic.{Cyclotomic}
use Rattle.exact.specs.JobNumbers.{JobNumbers}
use Rattle.ring_jobs.specs.Shapes.{Branching}
use Rattle.calls.specs.Limits.{usable}
use Rattle.calls.specs.Sheets.{Sheet, start}
use Rattle.calls.specs.Fits.{Fits}
use Rattle.runs.specs.Runs.{State, Call, begun, called, settled, run}
use Rattle.runs.proofs.Traced.{traced_begun, traced_run}
use Rattle.runs.proofs.Fitting.{Readable, readable}
use Rattle.conservation.specs.declared.answer.Answer.{Answer}
use Rattle.conservation.specs.Answered.{Answers, written, Does, Makes, EachAnswered, buffer_after}

module _ (E : Cyclotomic) (N : JobNumbers) (room : ℕ) where
  -- where one call leads
  abbrev pub after : Call → State E → State E
  after c s = settled E N s (called E N room c s)

  pub run_then : (cs : List Call) (c : Call) (s : State E) → run E N room (cs ++ c ∷ []) s ≡ after c (run E N room cs s)
  unfolding run
  run_then [] c s = refl
  run_then (d ∷ cs) c s = run_then cs c (after d s)

  module _ {S : Type 0} (v : S → E.Elem) where
    pub buffer_then : (cs : List Call) (c : Call) (s : State E) (b : List ℕ) →
        buffer_after E v N room s (cs ++ c ∷ []) b ≡ written E v N c (run E N room cs s) (called E N room c (run E N room cs s)) (buffer_after E v N room s cs b)
    unfolding run buffer_after
    buffer_then [] c s b = refl
    buffer_then (d ∷ cs) c s b = buffer_then cs c (after d s) (written E v N d s (called E N room d s) b)

    pub answered_then : (cs : List Call) (c : Call) (s : State E) (xs : List (Answer S)) (x : Answer S) → length cs ≡ length xs →
        EachAnswered E v N room s cs xs → Answers E v N c (run E N room cs s) (called E N room c (run E N room cs s)) x → EachAnswered E v N room s (cs ++ c ∷ []) (xs ++ x ∷ [])
    unfolding run
    answered_then [] c s [] x n k a = (a, tt)
    answered_then [] c s (y ∷ xs) x n k a = absurd (omega arith)
    answered_then (d ∷ cs) c s [] x n k a = absurd k
    answered_then (d ∷ cs) c s (y ∷ xs) x n k a = (k.0, answered_then cs c (after d s) xs x (omega arith) k.1 a)

-- ---- calls on a new sheet
module _ {S : Type 0} (E : Cyclotomic) (v : S → E.Elem) (N : JobNumbers) (room : ℕ) where
  -- the records of a run are as they can be read
  run_fits : Branching N → (calls : List Call) → AllByRecursion (Fits E N) (run E N room calls (begun E N)).sheet.records
  run_fits B calls =
      let t = traced_run E N room calls (begun E N) (traced_begun E N (usable room)) in
      All-weaker (Readable E N) (Fits E N) (λ r h. h.0) _ (readable E N B (usable room) t.moves (run E N room calls (begun E N)).sheet t.way)

  -- no call yet
  pub makes_none : (s : Sheet E) (count : ℕ) (buffer : List ℕ) → s ≡ start E N → count ≡ 0 → Makes E v N room [] s count [] buffer buffer
  unfolding run begun start buffer_after
  makes_none s count buffer e k = record { leads = sym e; counted = ap (λ (z : Sheet E). length z.records) e ∙ sym k; answered = tt; saved_so = refl }

  -- one call more
  pub makes_more : Branching N → (calls : List Call) (c : Call) (s t : Sheet E) (count count' : ℕ) (xs : List (Answer S)) (x : Answer S) (b₀ b b' : List ℕ) →
      Makes E v N room calls s count xs b₀ b → length calls ≡ length xs → Does E v N room c x s t count count' b b' → Makes E v N room (calls ++ c ∷ []) t count' (xs ++ x ∷ []) b₀ b'
  makes_more B calls c s t count count' xs x b₀ b b' m n d =
      let u : State E = run E N room calls (begun E N) in
      let k = d u m.leads (ap (λ (z : Sheet E). length z.records) m.leads ∙ m.counted) (run_fits B calls) in
      let r = run_then E N room calls c (begun E N) in
      let l : (run E N room (calls ++ c ∷ []) (begun E N)).sheet ≡ t = ap (λ (z : State E). z.sheet) r ∙ k.0 in
      record {
        leads = l;
        counted = sym (ap (λ (z : Sheet E). length z.records) k.0) ∙ k.1;
        answered = answered_then E N room v calls c (begun E N) xs x n m.answered k.2;
        saved_so = k.3 ∙ ap (written E v N c u (called E N room c u)) m.saved_so ∙ sym (buffer_then E N room v calls c (begun E N) b₀);
      }
