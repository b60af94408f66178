-- The header of a file, and its end.
use Rattle.std.proofs.Common.{◌≡◌, ◌≢◌, ℕ, zero, suc, ◌+◌, ◌*◌, ◌<◌, ◌≤◌, ◌⊎◌, inl, inr, Bool, true, false, if◌then◌else◌, ◌==◌, nat_le, ◌&&◌, List, [], ◌∷◌, length, get_or, drop, replicate, Some, None, Option, Ok, Err, Result, sym, refl, ap, ap₂, ◌∙◌, arith, append-nil, length-drop, drop-cons, eq-eqb, ne_eqb, le-leb}
use Rattle.std.specs.Option.{option_map}
use Rattle.std.proofs.lemmas.Bool.{lt-leb}
use Rattle.std.proofs.lemmas.List.{drop_all}
use Rattle.exact.specs.Cyclotomic.{Cyclotomic}
use Rattle.exact.specs.JobNumbers.{JobNumbers}
use Rattle.calls.specs.Limits.{most_pieces}
use Rattle.calls.specs.Records.{Record}
use Rattle.calls.specs.Sheets.{Cursor, Sheet, start}
use Rattle.calls.specs.Moves.{descending, followed, replayed}
use Rattle.files.specs.Judging.{last_read, ended, scanned, judged}
use Rattle.saves.specs.Records.{deeper}
use Rattle.saves.proofs.Taken.{sheet, going_on, after_descents, nothing_first}

module _ (E : Cyclotomic) (N : JobNumbers) where
  -- ---- the header
  pub cut : (file : List ℕ) → length file < 3 → judged E N file ≡ Err 0
  unfolding judged
  cut [] h = refl
  cut (d ∷ []) h = refl
  cut (d ∷ high ∷ []) h = refl
  cut (d ∷ high ∷ low ∷ bytes) h = absurd (omega arith)

  abbrev judged_by : Bool → ℕ → List ℕ → Result (Sheet E) ℕ
  judged_by b count bytes = if b then scanned E N count 3 (start E N) bytes else Err 0

  header : (file : List ℕ) (d count : ℕ) → 3 ≤ length file → d ≡ get_or file 0 0 → count ≡ get_or file 1 0 * 256 + get_or file 2 0 →
      judged E N file ≡ judged_by ((d == N.depth) && nat_le count most_pieces) count (drop 3 file)
  unfolding judged
  header [] d count h e f = absurd (omega arith)
  header (x ∷ []) d count h e f = absurd (omega arith)
  header (x ∷ y ∷ []) d count h e f = absurd (omega arith)
  header (x ∷ y ∷ z ∷ bytes) d count h e f = sym (ap₂ (λ b n. judged_by ((b == N.depth) && nat_le n most_pieces) n bytes) e f)

  module _ (file : List ℕ) (d count : ℕ) (long : 3 ≤ length file) (e : d ≡ get_or file 0 0) (f : count ≡ get_or file 1 0 * 256 + get_or file 2 0) where
    pub bad_header : (d ≢ N.depth) ⊎ (most_pieces < count) → judged E N file ≡ Err 0
    bad_header (inl k) = header file d count long e f ∙ ap (λ b. judged_by (b && nat_le count most_pieces) count (drop 3 file)) (ne_eqb d N.depth k)
    bad_header (inr k) = header file d count long e f ∙ ap (λ b. judged_by ((d == N.depth) && b) count (drop 3 file)) (lt-leb _ _ k) ∙ both (d == N.depth)
      where
        both : (b : Bool) → judged_by (b && false) count (drop 3 file) ≡ Err 0
        both true = refl
        both false = refl

    pub good_header : d ≡ N.depth → count ≤ most_pieces → judged E N file ≡ scanned E N count 3 (start E N) (drop 3 file)
    good_header k l = header file d count long e f ∙ ap₂ (λ a b. judged_by (a && b) count (drop 3 file)) (eq-eqb d N.depth k) (le-leb _ _ l)

  -- ---- the last byte's descents
  pub descents_from : (n : ℕ) (c : Cursor) (rs : List (Record E)) → replayed E N most_pieces (replicate n descending) (sheet E N (Some c) rs) ≡ option_map (λ d. sheet E N (Some d) rs) (deeper N.depth n c)
  unfolding replayed
  descents_from n c rs = ap (λ ms. replayed E N most_pieces ms (sheet E N (Some c) rs)) (sym (append-nil (replicate n descending))) ∙ after_descents E N most_pieces [] rs n c ∙ go (deeper N.depth n c)
    where
      go : (o : Option Cursor) → going_on E N most_pieces [] rs o ≡ option_map (λ d. sheet E N (Some d) rs) o
      go None = refl
      go (Some d) = refl

  pub none_from_nothing : (n : ℕ) (rs : List (Record E)) → n ≢ 0 → replayed E N most_pieces (replicate n descending) (sheet E N None rs) ≡ None
  unfolding replayed
  none_from_nothing zero rs h = absurd (h refl)
  none_from_nothing (suc n) rs h = ap (λ r. followed E N r (replayed E N most_pieces (replicate n descending))) (nothing_first E N most_pieces descending rs)

  pub nothing_from_nothing : (n : ℕ) (rs : List (Record E)) → n ≡ 0 → replayed E N most_pieces (replicate n descending) (sheet E N None rs) ≡ Some (sheet E N None rs)
  unfolding replayed
  nothing_from_nothing n rs h = ap (λ k. replayed E N most_pieces (replicate k descending) (sheet E N None rs)) h

  -- ---- the end of a file
  pub no_end : (file : List ℕ) (at : ℕ) (s : Sheet E) → length file ≤ at → scanned E N 0 at s (drop at file) ≡ Err at
  unfolding scanned last_read
  no_end file at s h = ap (scanned E N 0 at s) (drop_all at file h)

  module _ (file : List ℕ) (at last : ℕ) (s : Sheet E) (inside : at < length file) (e : last ≡ get_or file at last) where
    at_last : (o : Option (Sheet E)) → replayed E N most_pieces (replicate last descending) s ≡ o → scanned E N 0 at s (drop at file) ≡ ended E N at (last ∷ drop (suc at) file) o
    unfolding scanned last_read
    at_last o f = ap (scanned E N 0 at s) (drop-cons file at last inside ∙ ap (λ b. b ∷ drop (suc at) file) (sym e)) ∙ ap (ended E N at (last ∷ drop (suc at) file)) f

    pub bad_end : replayed E N most_pieces (replicate last descending) s ≡ None → scanned E N 0 at s (drop at file) ≡ Err at
    bad_end f = at_last None f

    pub late_end : (t : Sheet E) → replayed E N most_pieces (replicate last descending) s ≡ Some t → at + 1 ≢ length file → scanned E N 0 at s (drop at file) ≡ Err (at + 1)
    late_end t f h = at_last (Some t) f ∙ ap (λ b. if b then Ok t else Err (at + 1)) (ne_eqb _ 1 (λ (k : length (last ∷ drop (suc at) file) ≡ 1). h (omega (arith, length-drop (suc at) file))))

    pub good_end : (t : Sheet E) → replayed E N most_pieces (replicate last descending) s ≡ Some t → at + 1 ≡ length file → scanned E N 0 at s (drop at file) ≡ Ok t
    good_end t f h = at_last (Some t) f ∙ ap (λ b. if b then Ok t else Err (at + 1)) (eq-eqb _ 1 (omega (arith, length-drop (suc at) file)))
