-- How the values of a sweep type go with totals of coefficients modulo 2^64: zero, sum and opposite are those of the totals.
use Rattle.std.specs.Prelude.{◌≡◌}
use Rattle.exact.specs.Groups.{AbelianGroup}
use Rattle.exact.specs.Residues.{Total, totals}

pub record TiedToTotals {S : Type 0} (G : AbelianGroup) (worth : S → G.Val) (total : S → Total) : Type 0 where
  pub zero : (s : S) → worth s ≡ G.zero → total s ≡ totals.zero
  pub sum : (s t u : S) → worth u ≡ G.sum (worth s) (worth t) → total u ≡ totals.sum (total s) (total t)
  pub opposite : (s t : S) → worth t ≡ G.opposite (worth s) → total t ≡ totals.opposite (total s)
