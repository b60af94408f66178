-- Files: what a sheet writes spells the calls that it tells.
use Rattle.std.proofs.Common.{◌≡◌, ℕ, suc, ◌+◌, ◌*◌, ◌/◌, ◌%◌, ◌<◌, ◌≤◌, Bool, true, false, if◌then◌else◌, ◌==◌, ◌&&◌, List, [], ◌∷◌, ◌++◌, length, drop, replicate, ℤ, Some, None, Option, sym, refl, ap, ap₂, ◌∙◌, subst, arith, length-append, append_assoc, flat_map, eqb-true, eq-eqb, ne_eqb}
use Rattle.std.proofs.Math.Seq.{append_snoc, drop-append_seam}
use Rattle.exact.specs.Cyclotomic.{Cyclotomic, CyclotomicLaws}
use Rattle.exact.specs.JobNumbers.{JobNumbers}
use Rattle.chains.specs.Books.{Placement}
use Rattle.calls.specs.Limits.{most_pieces}
use Rattle.calls.specs.Records.{Record}
use Rattle.calls.specs.Sheets.{Sheet, start}
use Rattle.calls.specs.Moves.{Move, descending, laying, setting_aside, replayed}
use Rattle.calls.proofs.Moving as moving
use Rattle.calls.proofs.Moving.{Replayed}
use Rattle.files.specs.Files.{coefficient_bytes, last_byte, same_bytes, place_bytes, place_width, bytes_of, record_bytes, saved, spelled_from, spelled, if_saved, restored}
use Rattle.files.proofs.Kept.{Kept, Small, told, closing, record_calls}

-- ---- equal bytes
pub same_bytes_true : (xs ys : List ℕ) → same_bytes xs ys ≡ true → xs ≡ ys
unfolding same_bytes
same_bytes_true [] [] e = refl
same_bytes_true [] (y ∷ ys) e = absurd cc
same_bytes_true (x ∷ xs) [] e = absurd cc
same_bytes_true (x ∷ xs) (y ∷ ys) e = go (x == y) refl e (same_bytes_true xs ys)
  where
    go : (b : Bool) → (x == y) ≡ b → (b && same_bytes xs ys) ≡ true → (same_bytes xs ys ≡ true → xs ≡ ys) → x ∷ xs ≡ y ∷ ys
    go true f e ih = ap₂ ◌∷◌ (eqb-true x y f) (ih e)
    go false f e ih = absurd cc

pub same_bytes_self : (xs : List ℕ) → same_bytes xs xs ≡ true
unfolding same_bytes
same_bytes_self [] = refl
same_bytes_self (x ∷ xs) = ap₂ ◌&&◌ (eq-eqb x x refl) (same_bytes_self xs)

-- ---- so many bytes for a place
four_each : (cs : List ℤ) → length (flat_map coefficient_bytes cs) ≡ 4 * length cs
four_each [] = refl
four_each (c ∷ cs) = omega (arith, length-append (coefficient_bytes c) (flat_map coefficient_bytes cs), four_each cs)

pub place_bytes_width : (E : Cyclotomic) → CyclotomicLaws E → (z : E.Elem) → length (place_bytes E z) ≡ place_width E
place_bytes_width E L z = four_each (E.list z) ∙ ap (λ n. 4 * n) (L.list_length z)

-- ---- a record's first byte, taken apart
spells_aside : (r q d : ℕ) (xs ys : List Move) → r ≡ d → q ≡ 1 →
    replicate r descending ++ (if q == 1 then setting_aside ∷ xs else laying ∷ ys) ≡ replicate d descending ++ setting_aside ∷ [] ++ xs
spells_aside r q d xs ys e f = ap₂ (λ n b. replicate n descending ++ (if b then setting_aside ∷ xs else laying ∷ ys)) e (eq-eqb q 1 f) ∙ sym (append_snoc (replicate d descending) setting_aside xs)

spells_laying : (r q d : ℕ) (xs ys : List Move) → r ≡ d → (q ≡ 1 → ⊥) →
    replicate r descending ++ (if q == 1 then setting_aside ∷ xs else laying ∷ ys) ≡ replicate d descending ++ laying ∷ [] ++ ys
spells_laying r q d xs ys e f = ap₂ (λ n b. replicate n descending ++ (if b then setting_aside ∷ xs else laying ∷ ys)) e (ne_eqb q 1 f) ∙ sym (append_snoc (replicate d descending) laying ys)

-- ---- a count in two bytes
pub counted : (n : ℕ) → n / 256 * 256 + n % 256 ≡ n
counted n = omega arith

-- ---- bytes that spell the calls of records
module _ (E : Cyclotomic) (L : CyclotomicLaws E) (N : JobNumbers) where
  -- one record's bytes, and then the others'
  spelled_record : (d : ℕ) (laid : Option (Placement E)) (k : ℕ) (bytes : List ℕ) → d < 16 →
      spelled_from E N (suc k) (bytes_of E d laid ++ bytes) ≡ (replicate d descending ++ closing laid ∷ []) ++ spelled_from E N k bytes
  unfolding spelled_from
  spelled_record d None k bytes h = spells_aside ((d + 16) % 16) ((d + 16) / 16) d _ _ (omega arith) (omega arith)
  spelled_record d (Some p) k bytes h =
      go p.mirrored
      ∙ ap (λ z. replicate d descending ++ laying ∷ [] ++ spelled_from E N k z) (subst (λ w. drop w (place_bytes E p.place ++ bytes) ≡ bytes) (place_bytes_width E L p.place) (drop-append_seam (place_bytes E p.place) bytes))
    where
      go : (b : Bool) →
          replicate ((d + (if b then 32 else 0)) % 16) descending ++ (if ((d + (if b then 32 else 0)) / 16) == 1 then setting_aside ∷ spelled_from E N k ((p.turn % E.n) ∷ place_bytes E p.place ++ bytes) else laying ∷ spelled_from E N k (drop (place_width E) (place_bytes E p.place ++ bytes)))
          ≡ replicate d descending ++ laying ∷ [] ++ spelled_from E N k (drop (place_width E) (place_bytes E p.place ++ bytes))
      go true = spells_laying ((d + 32) % 16) ((d + 32) / 16) d _ _ (omega arith) (omega arith)
      go false = spells_laying ((d + 0) % 16) ((d + 0) / 16) d _ _ (omega arith) (omega arith)

  spelled_records : (rs : List (Record E)) (l : ℕ) → Small rs → spelled_from E N (length rs) (flat_map (record_bytes E) rs ++ l ∷ []) ≡ flat_map record_calls rs ++ replicate l descending
  unfolding spelled_from record_bytes
  spelled_records [] l h = refl
  spelled_records (r ∷ rs) l h =
      ap (spelled_from E N (suc (length rs))) (append_assoc (record_bytes E r) _ _)
      ∙ spelled_record r.descents r.laid (length rs) _ h.0
      ∙ ap (◌++◌ (record_calls r)) (spelled_records rs l h.1)
      ∙ sym (append_assoc (record_calls r) _ _)

  spelled_saved : (places : ℕ) (s : Sheet E) → Kept E N places s → spelled E N (saved E N s) ≡ told s
  unfolding spelled saved
  spelled_saved places s k =
      ap (λ n. spelled_from E N n (flat_map (record_bytes E) s.records ++ last_byte s.cursor ∷ [])) (counted (length s.records))
      ∙ spelled_records s.records (last_byte s.cursor) k.small

  -- a sheet that accepted calls lead to is restored from what it writes
  pub restores : (places : ℕ) (s : Sheet E) → places ≤ most_pieces → Kept E N places s → restored E N (saved E N s) ≡ Some s
  unfolding restored
  restores places s l k =
      ap (if_saved E N (saved E N s)) (ap (λ ms. replayed E N most_pieces ms (start E N)) (spelled_saved places s k)
      ∙ moving.replays E N most_pieces (told s) (start E N) s (moving.all_fit E N places most_pieces (told s) (start E N) s k.way (omega (arith, k.fits))))
      ∙ ap (λ b. if b then Some s else None) (same_bytes_self (saved E N s))

module _ (E : Cyclotomic) (N : JobNumbers) where
  -- what is restored comes from the calls that the file spells, and writes the file
  pub is_restored : (file : List ℕ) (t : Sheet E) → restored E N file ≡ Some t → Replayed E N most_pieces (spelled E N file) (start E N) t × (saved E N t ≡ file)
  unfolding restored
  is_restored file t e = go (replayed E N most_pieces (spelled E N file) (start E N)) refl e
    where
      pick : (u : Sheet E) (b : Bool) → same_bytes (saved E N u) file ≡ b → (if b then Some u else None) ≡ Some t → (u ≡ t) × (saved E N u ≡ file)
      pick u true f e = (cc, same_bytes_true _ _ f)
      pick u false f e = absurd cc

      go : (o : Option (Sheet E)) → replayed E N most_pieces (spelled E N file) (start E N) ≡ o → if_saved E N file o ≡ Some t →
          Replayed E N most_pieces (spelled E N file) (start E N) t × (saved E N t ≡ file)
      go None f e = absurd cc
      go (Some u) f e =
          let p = pick u (same_bytes (saved E N u) file) refl e in
          subst (λ v. Replayed E N most_pieces (spelled E N file) (start E N) v × (saved E N v ≡ file)) p.0 (moving.is_replayed E N most_pieces (spelled E N file) (start E N) u f, p.1)
