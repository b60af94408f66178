-- Numbers cut into rows of so many, each read as a value or refused.
use Rattle.std.specs.Prelude.{◌≡◌, ◌≢◌, ℕ, ◌<◌, ◌/◌, ◌%◌, List, [], ◌∷◌, length, ℤ, Some, None, Option, slice_index_or}
use Rattle.std.specs.Simd.{first_chunks}

-- the rows of n numbers that ns begins with
abbrev pub rows_of : ℕ → List ℤ → List (List ℤ)
rows_of n ns = first_chunks n (length ns / n) ns

-- each row is read as the value at its place
abbrev pub Read : {R : Type 0} → (List ℤ → Option R → Type 0) → List (List ℤ) → List R → Type 0
Read says [] [] = Unit {0}
Read says [] (v ∷ vs) = ⊥
Read says (row ∷ rows) [] = ⊥
Read says (row ∷ rows) (v ∷ vs) = says row (Some v) × Read says rows vs

-- ns are rows of n numbers and nothing else, read as vs
pub record RowsSay {R : Type 0} (n : ℕ) (says : List ℤ → Option R → Type 0) (ns : List ℤ) (vs : List R) : Type 0 where
  pub even : length ns % n ≡ 0
  pub read : Read says (rows_of n ns) vs

-- a number is left over, or a row is refused
pub data NoRows {R : Type 0} (n : ℕ) (says : List ℤ → Option R → Type 0) (ns : List ℤ) : Type 0 where
  left_over : length ns % n ≢ 0 → NoRows n says ns
  refused : (k : ℕ) → k < length (rows_of n ns) → says (slice_index_or (rows_of n ns) k []) None → NoRows n says ns
