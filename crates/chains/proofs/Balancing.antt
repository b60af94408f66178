-- What an accepted book gives at every label, tile and placement.
use Rattle.std.proofs.Common.{◌≡◌, ℕ}
use Rattle.exact.specs.Cyclotomic.{Cyclotomic, CyclotomicLaws}
use Rattle.chains.specs.Books.{Book, Placement, label_at}
use Rattle.chains.specs.Edges.{Chain, SameNet}
use Rattle.chains.specs.Inflation.{inflate, inflated}
use Rattle.chains.specs.Placements.{children_of, placed_outline, outlines}
use Rattle.chains.specs.Accepted.{Accepted}
use Rattle.chains.proofs.Lookups as lookups
use Rattle.chains.proofs.Inflating as inflating
use Rattle.chains.proofs.Placing as placing

module _ (E : Cyclotomic) (L : CyclotomicLaws E) (B : Book E) (A : Accepted E B) where
  real : (e : ℕ) → E.conj (label_at B e).length ≡ (label_at B e).length
  real = lookups.real_everywhere E L B (λ e h. (A.lengths_fit e h).real)

  -- inflating once keeps equal net counts, and so does inflating k times
  pub inflate_keeps : (c c' : Chain E) → SameNet E B c c' → SameNet E B (inflate E B c) (inflate E B c')
  inflate_keeps = inflating.inflate_same E L B (lookups.adds_everywhere E L B A.subdivisions_fit) (lookups.palindrome_everywhere E L B A.subdivisions_fit)

  pub inflated_keeps : (k : ℕ) (c c' : Chain E) → SameNet E B c c' → SameNet E B (inflated E B k c) (inflated E B k c')
  unfolding inflated
  inflated_keeps ℕ.zero c c' h = h
  inflated_keeps (ℕ.suc k) c c' h = inflated_keeps k (inflate E B c) (inflate E B c') (inflate_keeps c c' h)

  -- a placed tile's children have the net counts of its outline inflated once
  pub family_balances : (p : Placement E) → SameNet E B (outlines E B (children_of E B p)) (inflate E B (placed_outline E B p))
  family_balances p = placing.children_same E L B real A.factor_fits.real p (lookups.balance_everywhere E L B A.children_balance p.tile)
