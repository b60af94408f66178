-- What a text is answered with: the cutting list of its job, or the line of its refusal.
use Rattle.std.specs.Prelude.{◌≡◌, ℕ, ◌≤◌, Bool, true, false, ◌⊎◌, List, [], ◌∷◌, ◌++◌, length, decimal, Some}
use Rattle.std.specs.List.{AllByRecursion}
use Rattle.exact.specs.Cyclotomic.{Cyclotomic}
use Rattle.exact.specs.JobNumbers.{JobNumbers}
use Rattle.exact.specs.Models.{gaussian, tenfold}
use Rattle.refusals.specs.Refusal.{Refusal}
use Rattle.jobs.specs.declared.ring.NamedRing.{NamedRing}
use Rattle.jobs.specs.declared.ring.NamedRing.TheVariants as named
use Rattle.jobs.specs.Rings.{order_of, rank_of}
use Rattle.jobs.specs.Ranges.{InRange}
use Rattle.jobs.specs.Spelled.{spelled}
use Rattle.jobs.specs.Refusals.{Refused}
use Rattle.chains.specs.Books.{book_of}
use Rattle.chains.specs.Accepted.{Accepted}
use Rattle.chains.specs.Addresses.{node_placement}
use Rattle.book.specs.Faults.{book_refusal}
use Rattle.book.specs.Points.{FirstFault, points}
use Rattle.book.specs.declared.fault.BookFault.{BookFault}
use Rattle.small_books.specs.Sizes.{NotAccepted}
use Rattle.nodes.specs.Table.{there, table}
use Rattle.calls.specs.Limits.{most_pieces}
use Rattle.calls.specs.Depths.{pieces}
use Rattle.sheet.specs.Faults.{sheet_refusal}
use Rattle.sheet.specs.declared.fault.SheetFault.{SheetFault}
use Rattle.floors.specs.Floors.{floor_list, StopsAt}
use Rattle.gaussian.specs.declared.Gaussian.{Gaussian}
use Rattle.tenfold.specs.declared.Tenfold.{Tenfold}

-- `refused n p`, and a line feed
abbrev pub refused_line : ℕ → ℕ → List ℕ
refused_line n p = 114 ∷ 101 ∷ 102 ∷ 117 ∷ 115 ∷ 101 ∷ 100 ∷ 32 ∷ [] ++ decimal n ++ 32 ∷ [] ++ decimal p ++ 10 ∷ []

-- a text spells a job whose numbers are in range, over the ring that it names
pub record Spells (text : List ℕ) (ring : NamedRing) (N : JobNumbers) : Type 0 where
  pub spelt : text ≡ spelled N
  pub in_range : InRange N
  pub order : N.order ≡ order_of ring
  pub rank : N.rank ≡ rank_of ring

-- a refusal has that number, and may have that place
abbrev pub Tells : Refusal → ℕ → ℕ → Type 0
Tells r n p = (r.number ≡ Some n) × r.Places p

module _ (E : Cyclotomic) (N : JobNumbers) where
  -- The job's book is accepted, all its pieces are on the plane, and the list has room for them.
  pub record CanBeLaid : Type 0 where
    pub accepted : Accepted E (book_of E N)
    pub on_plane : AllByRecursion (λ a. table E N a ≡ there (node_placement E N a)) (pieces N)
    pub room : length (pieces N) ≤ most_pieces

  module _ {S : Type 0} (value : S → E.Elem) where
    -- the book's first fault, where it is not accepted
    abbrev pub BookRefused : ℕ → ℕ → Type 0
    BookRefused n p = (f : BookFault S) × FirstFault E (book_of E N) value (points E (book_of E N)) f × NotAccepted (Accepted E (book_of E N)) f × Tells (book_refusal f) n p

    -- the first piece that cannot be laid, where the book is accepted
    abbrev pub PieceRefused : ℕ → ℕ → Type 0
    PieceRefused n p = (f : SheetFault S) × StopsAt E N most_pieces f × Tells (sheet_refusal f) n p

    -- what a job is answered with: the list of all its pieces where they can be laid, else a refusal
    abbrev pub JobReply : Bool → List ℕ → Type 0
    JobReply false out = CanBeLaid × (out ≡ floor_list E N)
    JobReply true out = (n p : ℕ) × (out ≡ refused_line n p) × (BookRefused n p ⊎ PieceRefused n p)

-- over the ring that a job names
abbrev pub ReplyOver : NamedRing → JobNumbers → Bool → List ℕ → Type 0
ReplyOver named.Gaussian N refused out = JobReply gaussian N {S = Gaussian} (λ z. gaussian.of z.row.at) refused out
ReplyOver named.Tenfold N refused out = JobReply tenfold N {S = Tenfold} (λ z. tenfold.of z.row.at) refused out

-- what a text is answered with: if it spells a job, what the job is; else its refusal
pub data TextReply (text : List ℕ) (refused : Bool) (out : List ℕ) : Type 0 where
  of_job : (ring : NamedRing) (N : JobNumbers) → Spells text ring N → ReplyOver ring N refused out → TextReply text refused out
  of_text : refused ≡ true → (n p : ℕ) → Refused text n p → out ≡ refused_line n p → TextReply text refused out

-- A text has one reply.
abbrev pub OneReply : Type 0
OneReply = (text : List ℕ) (refused also : Bool) (out other : List ℕ) → TextReply text refused out → TextReply text also other → (refused ≡ also) × (out ≡ other)
