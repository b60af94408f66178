-- Descents and layings lead on, one after the other; and from a new sheet on they are a run.
use Rattle.std.proofs.Common.{◌≡◌, ℕ, List, [], ◌∷◌, ◌++◌, map, Some, Ok, Err, Result, sym, refl, ap, ◌∙◌, subst}
use Rattle.std.specs.List.{AllByRecursion}
use Rattle.exact.specs.Cyclotomic.{Cyclotomic, CyclotomicLaws}
use Rattle.exact.specs.JobNumbers.{JobNumbers}
use Rattle.chains.proofs.Lists.{all_append}
use Rattle.job_rows.specs.declared.Placed.{Placed}
use Rattle.job_check.specs.Checks.{Passes}
use Rattle.ring_jobs.specs.Shapes.{Branching}
use Rattle.calls.specs.Limits.{usable}
use Rattle.calls.specs.Sheets.{Sheet, Why, start, descend}
use Rattle.calls.specs.Moves.{Move, descending, laying, setting_aside, moved, replayed, followed}
use Rattle.calls.proofs.Moving as moving
use Rattle.runs.specs.Runs as runs
use Rattle.runs.specs.Runs.{State, begun, done, settled, noted_if, retraced, run}
use Rattle.runs.proofs.Noting.{retraced_sheet}
use Rattle.runs.proofs.Traced.{begun_sheet, runs_moves}
use Rattle.conservation.proofs.Conserved.{conserves_unmetered}
use Rattle.conservation.proofs.Stepping.{by_table}
use Rattle.sheet.specs.Answers.{Does, Answers, Lays}
use Rattle.sheet.specs.declared.fault.SheetFault.{SheetFault}
use Rattle.whole_jobs.specs.Whole.{Forward, LedOn}
use Rattle.whole_jobs.specs.Job.{LedByARun}

module _ (E : Cyclotomic) (N : JobNumbers) (places : ℕ) where
  -- ---- no call, one call, and some behind others
  pub led_none : (s t : Sheet E) → t ≡ s → LedOn E N places s t
  unfolding replayed
  led_none s t e = ([], tt, ap Some (sym e))

  module _ {A S : Type 0} (Good : A → Type 0) where
    led_by : (m : Move) (r : Result A (SheetFault S)) (s t : Sheet E) → Forward m → Does E (moved E N places m s) Good r s t → LedOn E N places s t
    unfolding replayed
    led_by m r s t f d = go (moved E N places m s) refl r d
      where
        go : (q : Result (Sheet E) Why) → moved E N places m s ≡ q → (r : Result A (SheetFault S)) → Does E q Good r s t → LedOn E N places s t
        go (Ok u) e (Ok a) k = (m ∷ [], (f, tt), ap (λ q. followed E N q (replayed E N places [])) e ∙ ap Some (sym k.0))
        go (Ok u) e (Err y) k = absurd k
        go (Err w) e (Ok a) k = absurd k
        go (Err w) e (Err y) k = led_none s t k.1

    pub led_down : (r : Result A (SheetFault S)) (s t : Sheet E) → Does E (descend E N s) Good r s t → LedOn E N places s t
    unfolding moved
    led_down r s t d = led_by descending r s t tt d

  pub led_joined : (s t u : Sheet E) → LedOn E N places s t → LedOn E N places t u → LedOn E N places s u
  led_joined s t u x y = (
    x.0 ++ y.0,
    all_append Forward x.0 y.0 x.1 y.1,
    moving.replays E N places (x.0 ++ y.0) s u (moving.further E N places x.0 y.0 s t u (moving.is_replayed E N places x.0 s t x.2) (moving.is_replayed E N places y.0 t u y.2)),
  )

  -- ---- nothing is set aside on the way
  keeps_one : (m : Move) → Forward m → (s : State E) → (settled E N s (done E N places m s)).aside ≡ s.aside
  unfolding done
  keeps_one m f s = go m f (moved E N places m s.sheet)
    where
      go : (m : Move) → Forward m → (q : Result (Sheet E) Why) → (settled E N s (noted_if E N m s q)).aside ≡ s.aside
      go descending f (Ok t) = refl
      go laying f (Ok t) = refl
      go setting_aside f (Ok t) = absurd f
      go m f (Err w) = refl

  pub keeps_aside : (ms : List Move) → AllByRecursion Forward ms → (s : State E) → (retraced E N places ms s).aside ≡ s.aside
  unfolding retraced
  keeps_aside [] f s = refl
  keeps_aside (m ∷ ms) f s = keeps_aside ms f.1 (settled E N s (done E N places m s)) ∙ keeps_one m f.0 s

  pub led_by_laying : {S : Type 0} (v : S → E.Elem) (Sound : Type 0) (r : Result (Placed S) (SheetFault S)) (s t : Sheet E) → Sound → Lays E v N Sound places r s t → LedOn E N places s t
  unfolding moved
  led_by_laying v Sound r s t sound l = led_by (Answers E v N l.0) laying r s t tt (subst (λ q. Does E q (Answers E v N l.0) r s t) (by_table E v N places s l.0 (l.1 sound)) l.2)

-- ---- a run
module _ (E : Cyclotomic) (L : CyclotomicLaws E) (N : JobNumbers) (B : Branching N) (K : Passes E N) (room : ℕ) where
  none_at_first : (begun E N).aside ≡ []
  unfolding begun
  none_at_first = refl

  pub by_a_run : (t : Sheet E) → LedOn E N (usable room) (start E N) t → LedByARun E N room t
  by_a_run t (ms, f, e) =
      let same = runs_moves E N room ms (begun E N) in record {
        moves = ms;
        forward = f;
        accepted = e;
        leads = ap (λ (z : State E). z.sheet) same ∙ retraced_sheet E N (usable room) ms (start E N) t (moving.is_replayed E N (usable room) ms (start E N) t e) (begun E N) (begun_sheet E N);
        none_aside = ap (λ (z : State E). z.aside) same ∙ keeps_aside E N (usable room) ms f (begun E N) ∙ none_at_first;
        conserves = conserves_unmetered E L N B K.judged.accepted room (map runs.moving ms);
      }
