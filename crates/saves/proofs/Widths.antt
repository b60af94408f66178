-- The bytes of records, one after the other, and how many they are.
use Rattle.std.proofs.Common.{◌≡◌, ℕ, zero, suc, ◌+◌, ◌*◌, ◌%◌, ◌<◌, ◌≤◌, if◌then◌else◌, List, [], ◌∷◌, ◌++◌, map, take, length, get_or, Some, None, ℤ, sym, ap, ap₂, ◌∙◌, arith, flat_map}
use Rattle.std.specs.List.{AllByRecursion}
use Rattle.std.proofs.lemmas.List.{take_more}
use Rattle.std.proofs.lemmas.List.Folds.{length-flat_map-take, flat_map-map}
use Rattle.exact.specs.Cyclotomic.{Cyclotomic, CyclotomicLaws}
use Rattle.chains.specs.Books.{Placement}
use Rattle.calls.specs.Records.{Record}
use Rattle.files.specs.Files.{aside_mark, mirror_mark, coefficient_bytes, place_bytes, bytes_of, record_bytes}
use Rattle.files.proofs.Files.{place_bytes_width}
use Rattle.files.proofs.Kept.{flat_map_snoc}

-- ---- lists of lists, put together item by item
module _ {A B C : Type 0} (g : B → List C) (f : A → B) where
  pub rows_more : (xs : List A) (i : ℕ) (d : A) → i < length xs → flat_map g (map f (take (i + 1) xs)) ≡ flat_map g (map f (take i xs)) ++ g (f (get_or xs i d))
  rows_more xs i d h = ap (λ ys. flat_map g (map f ys)) (take_more xs i d h) ∙ flat_map-map g f (take i xs ++ get_or xs i d ∷ []) ∙ flat_map_snoc (λ x. g (f x)) (take i xs) (get_or xs i d) ∙ ap (λ z. z ++ g (f (get_or xs i d))) (sym (flat_map-map g f (take i xs)))

  pub rows_room : (xs : List A) (i : ℕ) (d : A) → i < length xs → length (flat_map g (map f (take i xs))) + length (g (f (get_or xs i d))) ≤ length (flat_map g (map f xs))
  rows_room xs i d h = omega (arith, length-flat_map-take (λ x. g (f x)) xs i d h, ap length (flat_map-map g f xs), ap length (flat_map-map g f (take i xs)))

-- what holds of all holds of each
pub all_at : {A B : Type 0} (P : B → Type 0) (f : A → B) (xs : List A) (i : ℕ) (d : A) → i < length xs → AllByRecursion P (map f xs) → P (f (get_or xs i d))
all_at P f [] i d h a = absurd (omega arith)
all_at P f (x ∷ xs) zero d h a = a.0
all_at P f (x ∷ xs) (suc i) d h a = all_at P f xs i d (omega arith) a.1

-- ---- the bytes of the first coefficients of a place
pub coefficients_more : (cs : List ℤ) (k : ℕ) (d : ℤ) → k < length cs → flat_map coefficient_bytes (take (k + 1) cs) ≡ flat_map coefficient_bytes (take k cs) ++ coefficient_bytes (get_or cs k d)
coefficients_more cs k d h = ap (flat_map coefficient_bytes) (take_more cs k d h) ∙ flat_map_snoc coefficient_bytes (take k cs) (get_or cs k d)

-- ---- how many bytes a record has
module _ (E : Cyclotomic) (L : CyclotomicLaws E) where
  pub laid_width : (r : Record E) (p : Placement E) → r.laid ≡ Some p → length (record_bytes E r) ≡ 4 * E.d + 2
  unfolding record_bytes
  laid_width r p e = ap (λ o. length (bytes_of E r.descents o)) e ∙ omega (arith, place_bytes_width E L p.place)

  pub aside_width : (r : Record E) → r.laid ≡ None → length (record_bytes E r) ≡ 1
  unfolding record_bytes
  aside_width r e = ap (λ o. length (bytes_of E r.descents o)) e

-- ---- the bytes of a record, from what each of them says
module _ (E : Cyclotomic) where
  pub aside_bytes : (r : Record E) (b : ℕ) → r.laid ≡ None → b ≡ r.descents + aside_mark → record_bytes E r ≡ b ∷ []
  unfolding record_bytes
  aside_bytes r b e f = ap (bytes_of E r.descents) e ∙ ap (λ z. z ∷ []) (sym f)

  pub laid_bytes : (r : Record E) (p : Placement E) (b t : ℕ) → r.laid ≡ Some p → b ≡ r.descents + (if p.mirrored then mirror_mark else 0) → t ≡ p.turn % E.n → record_bytes E r ≡ (b ∷ t ∷ []) ++ place_bytes E p.place
  unfolding record_bytes
  laid_bytes r p b t e f h = ap (bytes_of E r.descents) e ∙ ap₂ (λ x y. x ∷ y ∷ place_bytes E p.place) (sym f) (sym h)
