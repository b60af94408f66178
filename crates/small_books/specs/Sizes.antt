-- Books with small coefficients.
use Rattle.std.specs.Prelude.{ℕ, ◌<◌, ◌≤◌, length}
use Rattle.std.specs.List.{AllByRecursion}
use Rattle.exact.specs.Cyclotomic.{Cyclotomic}
use Rattle.exact.specs.Sizes.{Within}
use Rattle.chains.specs.Books.{Book, label_at, tile_at}
use Rattle.job_rows.specs.Limits.{most_parts, most_steps}
use Rattle.book.specs.Points.{WorkedOnThePlane}
use Rattle.book.specs.declared.fault.BookFault.{BookFault}
use Rattle.book.specs.declared.fault.BookFault.TheVariants.{Factor, Length, Subdivision, Outline, Unbalanced, Ring, Memory}

-- the largest size of a coefficient of a factor, a length or a child's place that a job may have
abbrev pub job_bound : ℕ
job_bound = 32

-- coefficients no larger than that
pub record Small (E : Cyclotomic) (B : Book E) : Type 0 where
  pub factor : Within job_bound (E.list B.factor)
  pub lengths : (e : ℕ) → e < length B.labels → Within job_bound (E.list (label_at B e).length)
  pub places : (t : ℕ) → t < length B.tiles → AllByRecursion (λ p. Within job_bound (E.list p.place)) (tile_at B t).children

-- lists that are no longer than a job's
pub record Limited (E : Cyclotomic) (B : Book E) : Type 0 where
  pub parts : (e : ℕ) → length (label_at B e).subdivision ≤ most_parts
  pub steps : (t : ℕ) → length (tile_at B t).outline ≤ most_steps

-- whatever the check of such a book works out is on the plane
abbrev pub SmallBooksStayOnThePlane : Cyclotomic → Type 0
SmallBooksStayOnThePlane E = (B : Book E) → Limited E B → Small E B → WorkedOnThePlane E B

-- a refusal that says that the book is not accepted, and never that a value leaves the plane
abbrev pub NotAccepted : {S : Type 0} → Type 0 → BookFault S → Type 0
NotAccepted A Memory = Unit {0}
NotAccepted A (Ring f) = ⊥
NotAccepted A (Factor count) = A → ⊥
NotAccepted A (Length e) = A → ⊥
NotAccepted A (Subdivision e) = A → ⊥
NotAccepted A (Outline t) = A → ⊥
NotAccepted A (Unbalanced t d) = A → ⊥
