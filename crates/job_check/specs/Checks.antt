-- What the check of a job says.
use Rattle.exact.specs.Cyclotomic.{Cyclotomic}
use Rattle.exact.specs.JobNumbers.{JobNumbers}
use Rattle.chains.specs.Books.{book_of}
use Rattle.chains.specs.Accepted.{Accepted}
use Rattle.book.specs.Points.{WorkedOnThePlane, FirstFault, Rejects, points}
use Rattle.book.specs.declared.fault.BookFault.{BookFault}
use Rattle.book.specs.declared.fault.BookFault.TheVariants as book
use Rattle.small_books.specs.Sizes.{NotAccepted}
use Rattle.ring_jobs.specs.RingJobs.{OfTheRing}
use Rattle.job_check.specs.declared.fault.CheckFault.{CheckFault}
use Rattle.job_check.specs.declared.fault.CheckFault.TheVariants.{WrongRing, Book}

-- what a fault says, unless it is want of memory
abbrev pub UnlessMemory : {S : Type 0} → BookFault S → Type 0 → Type 0
UnlessMemory book.Memory P = Unit {0}
UnlessMemory (book.Factor count) P = P
UnlessMemory (book.Length e) P = P
UnlessMemory (book.Subdivision e) P = P
UnlessMemory (book.Outline t) P = P
UnlessMemory (book.Unbalanced t d) P = P
UnlessMemory (book.Ring f) P = P

module _ (E : Cyclotomic) (N : JobNumbers) where
  -- the job is of the ring, and its book is accepted
  pub record Judged : Type 0 where
    pub of_the_ring : OfTheRing E N
    pub accepted : Accepted E (book_of E N)

  -- and every value that the check works out is on the plane
  pub record Passes : Type 0 where
    pub judged : Judged
    pub kept : WorkedOnThePlane E (book_of E N)

  module _ {S : Type 0} (value : S → E.Elem) where
    -- 13 exactly where the job is not of the ring; else the first fault of the book; want of memory says nothing
    abbrev pub Fails : CheckFault S → Type 0
    Fails WrongRing = OfTheRing E N → ⊥
    Fails (Book f) = UnlessMemory f (OfTheRing E N × FirstFault E (book_of E N) value (points E (book_of E N)) f × Rejects E (book_of E N) value f)

    -- the same of a job that was read: the ring refuses nothing, and the book is not accepted
    abbrev pub NotUsable : CheckFault S → Type 0
    NotUsable WrongRing = OfTheRing E N → ⊥
    NotUsable (Book f) = UnlessMemory f (OfTheRing E N × FirstFault E (book_of E N) value (points E (book_of E N)) f × NotAccepted (Accepted E (book_of E N)) f)
