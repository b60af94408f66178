-- Values whose zero, sums and opposites, as one group has them, are those of another.
use Rattle.std.specs.Prelude.{◌≡◌}
use Rattle.exact.specs.Groups.{AbelianGroup}

pub record Tied {V : Type 0} (G : AbelianGroup) (worth : V → G.Val) (G' : AbelianGroup) (worth' : V → G'.Val) : Type 0 where
  pub zero : (s : V) → worth s ≡ G.zero → worth' s ≡ G'.zero
  pub sum : (s t u : V) → worth u ≡ G.sum (worth s) (worth t) → worth' u ≡ G'.sum (worth' s) (worth' t)
  pub opposite : (s t : V) → worth t ≡ G.opposite (worth s) → worth' t ≡ G'.opposite (worth' s)
