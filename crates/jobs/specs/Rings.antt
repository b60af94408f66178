-- The rings that a job may name, by order and rank, and their names as UTF-8.
use Rattle.std.specs.Prelude.{ℕ, List, [], ◌∷◌}
use Rattle.jobs.specs.declared.ring.NamedRing.{NamedRing}
use Rattle.jobs.specs.declared.ring.NamedRing.TheVariants.{Gaussian, Tenfold}

abbrev pub order_of : NamedRing → ℕ
order_of Gaussian = 4
order_of Tenfold = 10

abbrev pub rank_of : NamedRing → ℕ
rank_of Gaussian = 2
rank_of Tenfold = 4

-- Z[i], and Z[ζ10] with ζ as the bytes 206 and 182
abbrev pub name_of : NamedRing → List ℕ
name_of Gaussian = 90 ∷ 91 ∷ 105 ∷ 93 ∷ []
name_of Tenfold = 90 ∷ 91 ∷ 206 ∷ 182 ∷ 49 ∷ 48 ∷ 93 ∷ []
