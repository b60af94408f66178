-- When a text is refused, with which number and at which line.
use Rattle.std.specs.Prelude.{◌≡◌, ℕ, ◌+◌, ◌<◌, ◌≤◌, Bool, false, cond, List, [], ◌∷◌, ◌++◌, length, ℤ, pos, negsuc, Some, None, Option, nat_le}
use Rattle.std.specs.List.{AllByRecursion}
use Rattle.lines.specs.Letters.{Letter, letter_R, letter_I, letter_L, letter_S, letter_T, letter_C, letter_D, letter_P}
use Rattle.lines.specs.Lines.{Line, text, WellSpelt, FirstLine}
use Rattle.jobs.specs.Limits.{most_bytes}
use Rattle.jobs.specs.Fronts.{Front, nothing, Place, Complete, Takes, Leads}

-- the first lines of t are well spelt, stand where they may and say f; rest is what follows them
pub record At (t : List ℕ) (before : List Line) (f : Front) (rest : List ℕ) : Type 0 where
  pub whole : t ≡ text before ++ rest
  pub spelt : AllByRecursion WellSpelt before
  pub leads : Leads nothing before f

-- the line is of a child that names none of so many tiles
abbrev pub beyond_child : ℕ → List ℤ → Bool
beyond_child tiles [] = false
beyond_child tiles (pos tile ∷ zs) = nat_le tiles tile
beyond_child tiles (negsuc n ∷ zs) = false

abbrev pub beyond : ℕ → Letter → List ℤ → Bool
beyond tiles letter_R zs = false
beyond tiles letter_I zs = false
beyond tiles letter_L zs = false
beyond tiles letter_S zs = false
beyond tiles letter_T zs = false
beyond tiles letter_C zs = beyond_child tiles zs
beyond tiles letter_D zs = false
beyond tiles letter_P zs = false

-- the number of the first such line, where the lines are numbered from k
abbrev pub first_beyond : ℕ → ℕ → List Line → Option ℕ
first_beyond tiles k [] = None
first_beyond tiles k (l ∷ ls) = cond (beyond tiles l.letter l.numbers) (Some k) (first_beyond tiles (k + 1) ls)

-- why the lines before are the last that are read, with the refusal's number n and its line k
pub data Why (before : List Line) (f : Front) (rest : List ℕ) (n k : ℕ) : Type 0 where
  -- the next line breaks the spelling
  misspelt : n ≡ 1 → k ≡ length before + 1 → 0 < length rest → ((a : Letter) (zs : List ℤ) (more : List ℕ) → FirstLine rest a zs more → ⊥) → Why before f rest n k
  -- the next line is well spelt, and its letter has no place there
  misplaced : n ≡ 2 → k ≡ length before + 1 → (a : Letter) (zs : List ℤ) (more : List ℕ) → FirstLine rest a zs more → (Place f a → ⊥) → Why before f rest n k
  -- there is no next line, and the job is not complete
  early : n ≡ 2 → k ≡ length before + 1 → rest ≡ [] → (Complete f → ⊥) → Why before f rest n k
  -- the next line is well spelt and its letter has its place, and its numbers do not fit
  unfit : n ≡ 3 → k ≡ length before + 1 → (a : Letter) (zs : List ℤ) (more : List ℕ) → FirstLine rest a zs more → Place f a → ((g : Front) → Takes f a zs g → ⊥) → Why before f rest n k
  -- all lines are read, and k is the first of a child that names a tile beyond the last
  late : n ≡ 3 → rest ≡ [] → Complete f → first_beyond (length f.tiles) 1 before ≡ Some k → Why before f rest n k

-- the text t is refused with the number n at the place k
pub data Refused (t : List ℕ) (n k : ℕ) : Type 0 where
  overlong : most_bytes < length t → n ≡ 3 → k ≡ 0 → Refused t n k
  stopped : length t ≤ most_bytes → (before : List Line) (f : Front) (rest : List ℕ) → At t before f rest → Why before f rest n k → Refused t n k
