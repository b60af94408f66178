-- From a job's cutting list, or the fault for want of it, to the reply.
use Rattle.std.proofs.Common.{◌≡◌, ℕ, true, false, List, Some, None, Option, IfSome, ◌⊎◌, inl, inr, sym, subst}
use Rattle.std.specs.Option.{option_map}
use Rattle.exact.specs.Cyclotomic.{Cyclotomic, CyclotomicLaws}
use Rattle.exact.specs.JobNumbers.{JobNumbers}
use Rattle.exact.specs.Sizes.{SizeLaws}
use Rattle.book.specs.declared.fault.BookFault.TheVariants as book
use Rattle.jobs.specs.Ranges.{InRange}
use Rattle.jobs.specs.Refusals.{Refused}
use Rattle.jobs.specs.Faults.{Refuses}
use Rattle.faults.specs.Told.{told, only_place, text_refusal}
use Rattle.faults.specs.declared.TextFault.{TextFault}
use Rattle.ring_jobs.specs.Fitted.{fitted_job}
use Rattle.ring_jobs.specs.RingJobs.{OfTheRing}
use Rattle.ring_jobs.proofs.Shaping.{fitted_job_same}
use Rattle.job_check.specs.Checks.{NotUsable}
use Rattle.job_check.specs.declared.fault.CheckFault.{CheckFault}
use Rattle.job_check.specs.declared.fault.CheckFault.TheVariants.{WrongRing, Book as BookFails}
use Rattle.job_check.proofs.Checking.{stays_on_the_plane, usable_or_not}
use Rattle.calls.specs.Limits.{most_pieces}
use Rattle.sheet.specs.Ends.{NotStarted}
use Rattle.sheet.specs.Faults.{sheet_refusal}
use Rattle.sheet.specs.declared.fault.SheetFault.{SheetFault}
use Rattle.sheet.specs.declared.fault.SheetFault.TheVariants as sheets
use Rattle.floors.specs.Faults.{floor_refusal}
use Rattle.floors.specs.Floors.{floor_list, AllLaid, NoFloor}
use Rattle.floors.specs.declared.fault.FloorFault.{FloorFault}
use Rattle.floors.specs.declared.fault.FloorFault.TheVariants as floors
use Rattle.replies.specs.Replies.{Tells, BookRefused, PieceRefused, JobReply, refused_line}

pub no_number : {n : ℕ} → ◌≡◌ {A = Option ℕ} None (Some n) → ⊥
no_number e = cc

pub same_number : (m n : ℕ) → ◌≡◌ {A = Option ℕ} (Some m) (Some n) → m ≡ n
same_number m n e = cc

-- ---- a text's refusal
pub text_told : (t : List ℕ) (f : TextFault) (n p : ℕ) → Refuses t f → Tells (text_refusal f) n p → Refused t n p
text_told t f n p h k = go (told f) h k.0 k.1
  where
    go : (o : Option (ℕ × ℕ)) → IfSome o (λ (q : ℕ × ℕ). Refused t q.0 q.1) → option_map (λ (q : ℕ × ℕ). q.0) o ≡ Some n → only_place o p → Refused t n p
    go None h a b = absurd (no_number a)
    go (Some q) h a b = subst (λ m. Refused t m p) (same_number q.0 n a) (subst (Refused t q.0) (sym b) h)

-- ---- a job's
module _ {S : Type 0} (E : Cyclotomic) (v : S → E.Elem) (N : JobNumbers) where
  -- the check's
  by_check : (n p : ℕ) (f : CheckFault S) → NotUsable E N v f → OfTheRing E N → Tells (sheet_refusal (sheets.Check f)) n p → BookRefused E N v n p
  by_check n p WrongRing h o k = absurd (h o)
  by_check n p (BookFails (book.Factor c)) h o k = (book.Factor c, h.1, h.2, k)
  by_check n p (BookFails (book.Length e)) h o k = (book.Length e, h.1, h.2, k)
  by_check n p (BookFails (book.Subdivision e)) h o k = (book.Subdivision e, h.1, h.2, k)
  by_check n p (BookFails (book.Outline t)) h o k = (book.Outline t, h.1, h.2, k)
  by_check n p (BookFails (book.Unbalanced t d)) h o k = (book.Unbalanced t d, h.1, h.2, k)
  by_check n p (BookFails (book.Ring r)) h o k = absurd h.2
  by_check n p (BookFails book.Memory) h o k = absurd (no_number k.0)

  module _ (L : CyclotomicLaws E) (Z : SizeLaws E) (r : InRange N) (o : OfTheRing E N) where
    not_started : (n p : ℕ) (f : SheetFault S) → NotStarted E v N f → Tells (sheet_refusal f) n p → BookRefused E N v n p
    not_started n p (sheets.Check f) h k = by_check n p f (usable_or_not E v N (λ q. ∣ stays_on_the_plane E v N L r q Z ∣₁) f h) o k
    not_started n p sheets.NoRoom h k = absurd h
    not_started n p sheets.WrongLevel h k = absurd h
    not_started n p sheets.NothingPending h k = absurd h
    not_started n p sheets.StillPending h k = absurd h
    not_started n p (sheets.Place f) h k = absurd h
    not_started n p (sheets.List f) h k = absurd h
    not_started n p (sheets.File f) h k = absurd h
    not_started n p (sheets.Buffer f) h k = absurd h

    no_floor : (n p : ℕ) (f : FloorFault S) → NoFloor E N v most_pieces f → Tells (floor_refusal f) n p → BookRefused E N v n p ⊎ PieceRefused E N v n p
    no_floor n p floors.Memory h k = absurd (no_number k.0)
    no_floor n p (floors.Sheet f) (inl h) k = inl (not_started n p f h k)
    no_floor n p (floors.Sheet f) (inr h) k = inr (f, h, k)

    pub refused_reply : (f : FloorFault S) → NoFloor E (fitted_job E.d N) v most_pieces f → (n p : ℕ) → Tells (floor_refusal f) n p → (out : List ℕ) → out ≡ refused_line n p → JobReply E N v true out
    refused_reply f h n p k out e = (n, p, e, no_floor n p f (subst (λ M. NoFloor E M v most_pieces f) (fitted_job_same N r E.d o.1) h) k)

    pub listed_reply : AllLaid E N most_pieces → (out : List ℕ) → out ≡ floor_list E N → JobReply E N v false out
    listed_reply l out e = (record { accepted = l.passes.judged.accepted; on_plane = l.on_plane; room = l.room }, e)
