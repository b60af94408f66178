-- A text as lines: each a letter with its numbers, ended by the byte 10.
use Rattle.std.specs.Prelude.{◌≡◌, ℕ, ◌<◌, List, [], ◌∷◌, ◌++◌, length, ℤ, ◌≢◌, slice_index}
use Rattle.std.specs.List.{flat_map, AllByRecursion}
use Rattle.lines.specs.Letters.{Letter, byte}
use Rattle.lines.specs.Spelling.{Short, word}

-- no byte of the line ends a line
abbrev pub Inside : List ℕ → Type 0
Inside bs = (i : ℕ) → i < length bs → slice_index bs i ≢ 10

-- the text's first line, without its end, and what follows it
pub record Cut (text line rest : List ℕ) : Type 0 where
  pub inside : Inside line
  pub whole : text ≡ line ++ 10 ∷ rest

pub record Line : Type 0 where
  pub letter : Letter
  pub numbers : List ℤ

abbrev pub line : Letter → List ℤ → Line
line a zs = record { letter = a; numbers = zs }

-- the bytes of a line, with its end
abbrev pub spelt : Letter → List ℤ → List ℕ
spelt a zs = byte a ∷ (flat_map word zs ++ 10 ∷ [])

-- the bytes of several lines
abbrev pub text : List Line → List ℕ
text ls = flat_map (λ l. spelt l.letter l.numbers) ls

-- each number has at most seven digits
abbrev pub WellSpelt : Line → Type 0
WellSpelt l = AllByRecursion Short l.numbers

-- the text begins with a well spelt line: its letter, its numbers, and what follows it
pub record FirstLine (t : List ℕ) (a : Letter) (zs : List ℤ) (rest : List ℕ) : Type 0 where
  pub short : AllByRecursion Short zs
  pub whole : t ≡ spelt a zs ++ rest
