-- How the numbers of a line are spelt.
use Rattle.std.specs.Prelude.{◌≡◌, ℕ, ◌<◌, List, [], ◌∷◌, ◌++◌, ℤ, decimal, slice_index, unsigned_abs}
use Rattle.std.specs.List.{flat_map, AllByRecursion}
use Rattle.std.specs.Int.{IsInRange}
use Rattle.std.specs.Fmt.{signed_decimal}

-- at most seven digits
abbrev pub Few : ℕ → Type 0
Few n = n < 10_000_000

abbrev pub Short : ℤ → Type 0
Short z = Few (unsigned_abs z)

-- what may follow a number: nothing, or the space before the next
abbrev pub Ends : List ℕ → Type 0
Ends [] = Unit {0}
Ends (b ∷ bs) = b ≡ 32

-- a number after its space; `signed_decimal` writes no leading zero, no plus and no -0
abbrev pub word : ℤ → List ℕ
word z = 32 ∷ signed_decimal z

-- bs begins with the number z, and rest is left
pub record Word (bs : List ℕ) (z : ℤ) (rest : List ℕ) : Type 0 where
  pub short : Short z
  pub whole : bs ≡ word z ++ rest
  pub ends : Ends rest

-- the same of a number without its sign and space
pub record Plain (bs : List ℕ) (n : ℕ) (rest : List ℕ) : Type 0 where
  pub few : Few n
  pub whole : bs ≡ decimal n ++ rest
  pub ends : Ends rest

-- the first n bytes are digits
abbrev pub DigitsTo : List ℕ → ℕ → Type 0
DigitsTo bs n = (i : ℕ) → i < n → IsInRange 48 57 (slice_index bs i)

-- bs spells the numbers zs, each after its space, and nothing else
pub record Words (bs : List ℕ) (zs : List ℤ) : Type 0 where
  pub short : AllByRecursion Short zs
  pub whole : bs ≡ flat_map word zs
