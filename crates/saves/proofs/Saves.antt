-- The bytes of a file, part by part.
use Rattle.std.proofs.Common.{◌≡◌, ℕ, ◌+◌, ◌/◌, ◌%◌, ◌≤◌, List, [], ◌∷◌, ◌++◌, length, drop, Some, None, Option, sym, refl, ap, ap₂, ◌∙◌, arith, length-append, flat_map}
use Rattle.std.specs.List.{AllByRecursion}
use Rattle.std.proofs.ByRecursion.{All-weaker}
use Rattle.exact.specs.Cyclotomic.{Cyclotomic}
use Rattle.exact.specs.JobNumbers.{JobNumbers}
use Rattle.chains.specs.Books.{Placement}
use Rattle.calls.specs.Records.{Record}
use Rattle.calls.specs.Sheets.{Sheet}
use Rattle.calls.specs.Fits.{PieceOnPlane, Fits}
use Rattle.files.specs.Files.{last_byte, record_bytes, saved}
use Rattle.saves.specs.Written.{LaidOnPlane, Writable, with_bytes}
use Rattle.saves.proofs.Buffers.{with_front, with_one_more}

module _ (E : Cyclotomic) (N : JobNumbers) where
  -- the header, the records and the last byte
  abbrev pub head_of : Sheet E → List ℕ
  head_of s = N.depth ∷ (length s.records / 256) ∷ (length s.records % 256) ∷ []

  abbrev pub body_of : Sheet E → List ℕ
  body_of s = flat_map (record_bytes E) s.records

  pub parts : (s : Sheet E) → saved E N s ≡ (head_of s ++ body_of s) ++ last_byte s.cursor ∷ []
  unfolding saved
  parts s = refl

  pub file_length : (s : Sheet E) → length (saved E N s) ≡ 4 + length (body_of s)
  file_length s = omega (arith, ap length (parts s), length-append (head_of s ++ body_of s) (last_byte s.cursor ∷ []), length-append (head_of s) (body_of s))

  -- three parts written one behind the other are the file in front of what was there
  pub written : (s : Sheet E) (b b₁ b₂ b₃ : List ℕ) (m n o : ℕ) (h body : List ℕ) (l : ℕ) → length (saved E N s) ≤ length b → h ≡ head_of s → body ≡ body_of s → l ≡ last_byte s.cursor →
      m ≡ 0 + length h → b₁ ≡ with_bytes b 0 h → n ≡ m + length body → b₂ ≡ with_bytes b₁ m body → o ≡ n + 1 → b₃ ≡ with_bytes b₂ n (l ∷ []) →
      (o ≡ length (saved E N s)) × (b₃ ≡ saved E N s ++ drop o b)
  written s b b₁ b₂ b₃ m n o h body l fits eh eb el em e₁ en e₂ eo e₃ =
      let whole : saved E N s ≡ (h ++ body) ++ l ∷ [] = parts s ∙ sym (ap₂ (λ x y. x ++ y ∷ []) (ap₂ ◌++◌ eh eb) el) in
      let n₀ : n ≡ 0 + length (h ++ body) = omega (arith, length-append h body) in
      let long : length (saved E N s) ≡ length (h ++ body) + 1 = ap length whole ∙ length-append (h ++ body) (l ∷ []) in
      let o₀ : o ≡ length (saved E N s) = omega arith in
      let step₂ : b₂ ≡ with_bytes b 0 (h ++ body) = e₂ ∙ with_one_more b b₁ 0 m h body (h ++ body) e₁ em refl (omega arith) in
      let step₃ : b₃ ≡ with_bytes b 0 (saved E N s) = e₃ ∙ with_one_more b b₂ 0 n (h ++ body) (l ∷ []) (saved E N s) step₂ n₀ whole (omega arith) in
      (o₀, step₃ ∙ with_front b (saved E N s) ∙ ap (λ k. saved E N s ++ drop k b) (sym o₀))

  -- what fits has bytes
  has_bytes : (r : Record E) → Fits E N r → Writable E r
  has_bytes r h = (h.0.0, go r.laid h.1)
    where
      go : (o : Option (Placement E)) → PieceOnPlane E N o → LaidOnPlane E o
      go None h = tt
      go (Some p) h = h

  pub writable : (rs : List (Record E)) → AllByRecursion (Fits E N) rs → AllByRecursion (Writable E) rs
  writable rs a = All-weaker (Fits E N) (Writable E) has_bytes rs a
