-- What a resume answers, by what its file leads to.
use Rattle.std.proofs.Common.{◌≡◌, ℕ, ◌<◌, Bool, true, false, if◌then◌else◌, nat_le, List, length, Some, None, Option, Ok, Err, Result, sym, refl, ap, ◌∙◌, leb-false}
use Rattle.std.proofs.lemmas.Bool.{lt-leb}
use Rattle.exact.specs.Cyclotomic.{Cyclotomic}
use Rattle.exact.specs.JobNumbers.{JobNumbers}
use Rattle.calls.specs.Sheets.{Sheet, no_room}
use Rattle.files.specs.Files.{restored}
use Rattle.files.specs.Judging.{judged}
use Rattle.files.specs.Calls.{Reason, about_nodes, no_save, offset_in, if_restored, resume}
use Rattle.runs.specs.Runs.{State, resumed_as}

module _ (E : Cyclotomic) (N : JobNumbers) (places : ℕ) (file : List ℕ) where
  abbrev answer : Option (Sheet E) → Result (State E) Reason
  answer o = resumed_as E N file (if_restored E N places file o)

  answered : (o : Option (Sheet E)) → restored E N file ≡ o → resumed_as E N file (resume E N places file) ≡ answer o
  unfolding resume
  answered o e = ap answer e

  -- a file that leads nowhere
  pub refuses_bad : restored E N file ≡ None → resumed_as E N file (resume E N places file) ≡ Err (no_save (offset_in E N (judged E N file)))
  refuses_bad e = answered None e

  pub bad_only : (offset : ℕ) → resumed_as E N file (resume E N places file) ≡ Err (no_save offset) → restored E N file ≡ None
  bad_only offset e = go (restored E N file) refl (sym (answered (restored E N file) refl) ∙ e)
    where
      room : (u : Sheet E) (b : Bool) → resumed_as E N file (if b then Ok u else Err (about_nodes no_room)) ≡ Err (no_save offset) → restored E N file ≡ None
      room u true f = absurd cc
      room u false f = absurd cc

      go : (o : Option (Sheet E)) → restored E N file ≡ o → answer o ≡ Err (no_save offset) → restored E N file ≡ None
      go None f e = f
      go (Some u) f e = room u (nat_le (length u.records) places) e

  -- a file with more records than there is room for
  pub refuses_long : (u : Sheet E) → restored E N file ≡ Some u → places < length u.records → resumed_as E N file (resume E N places file) ≡ Err (about_nodes no_room)
  refuses_long u e l = answered (Some u) e ∙ ap (λ b. resumed_as E N file (if b then Ok u else Err (about_nodes no_room))) (lt-leb _ _ l)

  pub long_only : resumed_as E N file (resume E N places file) ≡ Err (about_nodes no_room) → (u : Sheet E) × (restored E N file ≡ Some u) × (places < length u.records)
  long_only e = go (restored E N file) refl (sym (answered (restored E N file) refl) ∙ e)
    where
      room : (u : Sheet E) (b : Bool) → nat_le (length u.records) places ≡ b → resumed_as E N file (if b then Ok u else Err (about_nodes no_room)) ≡ Err (about_nodes no_room) → places < length u.records
      room u true f e = absurd cc
      room u false f e = leb-false _ _ f

      go : (o : Option (Sheet E)) → restored E N file ≡ o → answer o ≡ Err (about_nodes no_room) → (u : Sheet E) × (restored E N file ≡ Some u) × (places < length u.records)
      go None f e = absurd cc
      go (Some u) f e = (u, f, room u (nat_le (length u.records) places) refl e)
