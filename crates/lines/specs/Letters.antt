-- The eight letters that a line may begin with.
use Rattle.std.specs.Prelude.{◌≡◌, ℕ, List, ◌∷◌}
use Rattle.lines.specs.declared.Kind.{Kind}
use Rattle.lines.specs.declared.Kind.TheVariants.{Ring, Factor, Label, Subdivision, Tile, Child, Depth, Seed}

pub data Letter : Type 0 where
  letter_R letter_I letter_L letter_S letter_T letter_C letter_D letter_P : Letter

-- the byte that spells it
abbrev pub byte : Letter → ℕ
byte letter_R = 82
byte letter_I = 73
byte letter_L = 76
byte letter_S = 83
byte letter_T = 84
byte letter_C = 67
byte letter_D = 68
byte letter_P = 80

-- the letter of a line's kind, and what follows the letter
abbrev pub letter : Kind → Letter
letter (Ring _) = letter_R
letter (Factor _) = letter_I
letter (Label _) = letter_L
letter (Subdivision _) = letter_S
letter (Tile _) = letter_T
letter (Child _) = letter_C
letter (Depth _) = letter_D
letter (Seed _) = letter_P

abbrev pub after : Kind → List ℕ
after (Ring r) = r.now
after (Factor r) = r.now
after (Label r) = r.now
after (Subdivision r) = r.now
after (Tile r) = r.now
after (Child r) = r.now
after (Depth r) = r.now
after (Seed r) = r.now

-- the line begins with one of the letters
abbrev pub Lettered : List ℕ → Type 0
Lettered bs = (a : Letter) × (rest : List ℕ) × (bs ≡ byte a ∷ rest)
