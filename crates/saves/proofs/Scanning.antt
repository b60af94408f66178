-- Records, read one after the other into a list.
use Rattle.std.proofs.Common.{◌≡◌, ℕ, zero, suc, ◌+◌, ◌-◌, ◌<◌, ◌≤◌, inl, inr, List, [], ◌∷◌, ◌++◌, map, length, take, drop, Some, None, Option, Err, sym, refl, ap, ap₂, ◌∙◌, arith, length-append, length-drop}
use Rattle.std.proofs.Math.ListN.{set}
use Rattle.std.proofs.lemmas.Bool.{cases_lt}
use Rattle.std.proofs.lemmas.List.{map-append, take_all, take-append-le, take_more_set, drop-set-lt, drop-drop}
use Rattle.exact.specs.Cyclotomic.{Cyclotomic}
use Rattle.exact.specs.JobNumbers.{JobNumbers}
use Rattle.calls.specs.Records.{Record}
use Rattle.calls.specs.Sheets.{Sheet}
use Rattle.files.specs.Files.{record_bytes}
use Rattle.files.specs.Judging.{added, record_read, going_on, scanned}
use Rattle.files.proofs.Reading.{added_one}

-- ---- one record of a file
module _ (E : Cyclotomic) (N : JobNumbers) where
  scan_record : (m o : ℕ) (s : Sheet E) (bytes : List ℕ) (r : Option (Sheet E)) → record_read E N s bytes ≡ r →
      scanned E N (suc m) o s bytes ≡ going_on E N o r (λ t. scanned E N m (o + length (added E N s t)) t (drop (length (added E N s t)) bytes))
  unfolding scanned
  scan_record m o s bytes r e = ap (λ x. going_on E N o x (λ t. scanned E N m (o + length (added E N s t)) t (drop (length (added E N s t)) bytes))) e

  module _ (count k o : ℕ) (s : Sheet E) (bytes : List ℕ) (more : k < count) where
    left : count - k ≡ suc (count - (k + 1))
    left = omega arith

    pub stops : record_read E N s bytes ≡ None → scanned E N (count - k) o s bytes ≡ Err o
    stops e = ap (λ n. scanned E N n o s bytes) left ∙ scan_record (count - (k + 1)) o s bytes None e

    pub goes_on : (t : Sheet E) (r : Record E) (used : ℕ) → record_read E N s bytes ≡ Some t → t.records ≡ s.records ++ r ∷ [] → used ≡ length (record_bytes E r) →
        scanned E N (count - k) o s bytes ≡ scanned E N (count - (k + 1)) (o + used) t (drop used bytes)
    goes_on t r used e f h =
        ap (λ n. scanned E N n o s bytes) left
        ∙ scan_record (count - (k + 1)) o s bytes (Some t) e
        ∙ ap (λ n. scanned E N (count - (k + 1)) (o + n) t (drop n bytes)) (ap length (added_one E N s t r f) ∙ sym h)

-- ---- a row of a list more
set_beyond : {A : Type 0} (xs : List A) (n : ℕ) (x : A) → length xs ≤ n → set xs n x ≡ xs
set_beyond [] n x h = refl
set_beyond (y ∷ xs) zero x h = absurd (omega arith)
set_beyond (y ∷ xs) (suc n) x h = ap (◌∷◌ y) (set_beyond xs n x (omega arith))

module _ {A B : Type 0} (view : A → B) (old cur : List A) (rs : List B) (x : A) (r : B) (n : ℕ) (long : length cur ≡ length old) (at : length rs ≡ n) (is : view x ≡ r) where
  one_more : length (rs ++ r ∷ []) ≡ n + 1
  one_more = omega (arith, length-append rs (r ∷ []))

  in_place : n < length cur → map view (take n cur) ≡ take (length old) rs → map view (take (n + 1) (set cur n x)) ≡ take (length old) (rs ++ r ∷ [])
  in_place h e =
      ap (map view) (take_more_set cur n x h)
      ∙ map-append view (take n cur) (x ∷ [])
      ∙ ap₂ (λ front last. front ++ last ∷ []) (e ∙ take_all (length old) rs (omega arith)) is
      ∙ sym (take_all (length old) (rs ++ r ∷ []) (omega (arith, one_more)))

  out_of_place : length cur ≤ n → map view (take n cur) ≡ take (length old) rs → map view (take (n + 1) (set cur n x)) ≡ take (length old) (rs ++ r ∷ [])
  out_of_place h e =
      ap (λ xs. map view (take (n + 1) xs)) (set_beyond cur n x h)
      ∙ ap (map view) (take_all (n + 1) cur (omega arith) ∙ sym (take_all n cur h))
      ∙ e
      ∙ sym (take-append-le (length old) rs (r ∷ []) (omega arith))

  front : map view (take n cur) ≡ take (length old) rs → map view (take (n + 1) (set cur n x)) ≡ take (length old) (rs ++ r ∷ [])
  front e = elim (cases_lt n (length cur)) [ inl h ↦ in_place h e | inr h ↦ out_of_place h e ]

  back : drop n cur ≡ drop n old → drop (n + 1) (set cur n x) ≡ drop (n + 1) old
  back e = drop-set-lt (n + 1) cur n x (omega arith) ∙ sym (drop-drop 1 n cur) ∙ ap (drop 1) e ∙ drop-drop 1 n old

  pub filled_more : (map view (take (length rs) cur) ≡ take (length old) rs) × (drop (length rs) cur ≡ drop (length rs) old) →
      (map view (take (length (rs ++ r ∷ [])) (set cur n x)) ≡ take (length old) (rs ++ r ∷ [])) × (drop (length (rs ++ r ∷ [])) (set cur n x) ≡ drop (length (rs ++ r ∷ [])) old)
  filled_more h = (
    ap (λ k. map view (take k (set cur n x))) one_more ∙ front (ap (λ k. map view (take k cur)) (sym at) ∙ h.0),
    ap (λ k. drop k (set cur n x)) one_more ∙ back (ap (λ k. drop k cur) (sym at) ∙ h.1 ∙ ap (λ k. drop k old) at) ∙ ap (λ k. drop k old) (sym one_more),
  )

pub filled_none : {A B : Type 0} (view : A → B) (xs : List A) → (map view (take 0 xs) ≡ take (length xs) []) × (drop 0 xs ≡ drop 0 xs)
filled_none view xs = (sym (take_all (length xs) [] (omega arith)), refl)

-- ---- the rest of a slice from an offset on
pub rest_is : {A : Type 0} (xs : List A) (at : ℕ) → drop at xs ≡ take (length xs - at) (drop at xs)
rest_is xs at = sym (take_all (length xs - at) (drop at xs) (omega (arith, length-drop at xs)))

pub rest_long : {A : Type 0} (xs : List A) (at used : ℕ) → at ≤ length xs → used ≤ length (take (length xs - at) (drop at xs)) → at + used ≤ length xs
rest_long xs at used h l = omega (arith, ap length (rest_is xs at), length-drop at xs)
