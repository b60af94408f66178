-- What each fault of a book refuses with.
use Rattle.std.specs.Prelude.{◌≡◌, ℕ, Some, None}
use Rattle.refusals.specs.Refusal.{Refusal}
use Rattle.refusals.specs.declared.Layer.TheVariants as layers
use Rattle.rings.specs.Faults.{ring_refusal}
use Rattle.edges.specs.declared.fault.ChainFault.{ChainFault}
use Rattle.edges.specs.declared.fault.ChainFault.TheVariants as chain
use Rattle.book.specs.declared.fault.BookFault.{BookFault}
use Rattle.book.specs.declared.fault.BookFault.TheVariants.{Factor, Length, Subdivision, Outline, Unbalanced, Ring, Memory}

-- a number of the book's own, at a label or a tile
abbrev pub of_the_book : ℕ → ℕ → Refusal
of_the_book number place = record { number = Some number; Places = λ p. p ≡ place; layer = layers.Book }

-- 4 at the label, or at the number of labels for the factor; 5 at the label; 6 and 7 at the tile; the ring's passed on whole; want of memory has no number
abbrev pub book_refusal : {S : Type 0} → BookFault S → Refusal
book_refusal (Factor count) = of_the_book 4 count
book_refusal (Length label) = of_the_book 4 label
book_refusal (Subdivision label) = of_the_book 5 label
book_refusal (Outline tile) = of_the_book 6 tile
book_refusal (Unbalanced tile d) = of_the_book 7 tile
book_refusal (Ring f) = ring_refusal f
book_refusal Memory = record { number = None; Places = λ p. p ≡ 0; layer = layers.Book }

-- what the making of a chain was refused for, whole
abbrev pub passed_on : {S : Type 0} → ChainFault → BookFault S
passed_on (chain.Ring f) = Ring f
passed_on chain.Memory = Memory
