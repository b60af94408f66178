-- What each fault of the check refuses with.
use Rattle.std.specs.Prelude.{◌≡◌, Some}
use Rattle.refusals.specs.Refusal.{Refusal}
use Rattle.refusals.specs.declared.Layer.TheVariants as layers
use Rattle.book.specs.Faults.{book_refusal}
use Rattle.job_check.specs.declared.fault.CheckFault.{CheckFault}
use Rattle.job_check.specs.declared.fault.CheckFault.TheVariants.{WrongRing, Book}

-- another ring: number 13, place 0, a refusal of the sheet; the book's is passed on whole
abbrev pub check_refusal : {S : Type 0} → CheckFault S → Refusal
check_refusal WrongRing = record { number = Some 13; Places = λ p. p ≡ 0; layer = layers.Sheet }
check_refusal (Book f) = book_refusal f
