-- Lists of nodes and what they come to.
use Rattle.std.proofs.Common.{◌≡◌, List, [], ◌∷◌, ◌++◌, map, length, get_or, sym, refl, ap, ◌∙◌, ap₂, append_assoc}
use mathlib.Core.List.{flat_map}
use Rattle.std.specs.List.{range_with_len, AllByRecursion}
use Rattle.std.proofs.lemmas.List.FromFn.{fill_by_all}

-- mathlib's flat_map, which the specs of chains use; the library's lemmas speak of a flat_map of its own
pub flatMap_append : {A B : Type 0} (f : A → List B) (xs ys : List A) → flat_map f (xs ++ ys) ≡ flat_map f xs ++ flat_map f ys
unfolding flat_map
flatMap_append f [] ys = refl
flatMap_append f (x ∷ xs) ys = ap₂ ◌++◌ refl (flatMap_append f xs ys) ∙ sym (append_assoc (f x) _ _)

pub flatMap_map : {A B C : Type 0} (f : B → List C) (g : A → B) (xs : List A) → flat_map f (map g xs) ≡ flat_map (λ x. f (g x)) xs
unfolding flat_map
flatMap_map f g [] = refl
flatMap_map f g (x ∷ xs) = ap₂ ◌++◌ refl (flatMap_map f g xs)

pub flatMap_same : {A B : Type 0} (f g : A → List B) (h : (x : A) → f x ≡ g x) (xs : List A) → flat_map f xs ≡ flat_map g xs
unfolding flat_map
flatMap_same f g h [] = refl
flatMap_same f g h (x ∷ xs) = ap₂ ◌++◌ (h x) (flatMap_same f g h xs)

-- a list by its places
pub by_places : {A B : Type 0} (f : A → List B) (xs : List A) (d : A) → flat_map (λ i. f (get_or xs i d)) (range_with_len 0 (length xs)) ≡ flat_map f xs
by_places f xs d = sym (flatMap_map f (λ i. get_or xs i d) (range_with_len 0 (length xs))) ∙ ap (flat_map f) (sym (fill_by_all (λ i. get_or xs i d) xs (length xs) d refl (λ k h. refl)))

pub all_append : {A : Type 0} (P : A → Type 0) (xs ys : List A) → AllByRecursion P xs → AllByRecursion P ys → AllByRecursion P (xs ++ ys)
all_append P [] ys h k = k
all_append P (x ∷ xs) ys h k = (h.0, all_append P xs ys h.1 k)

pub all_front : {A : Type 0} (P : A → Type 0) (xs ys : List A) → AllByRecursion P (xs ++ ys) → AllByRecursion P xs
all_front P [] ys h = tt
all_front P (x ∷ xs) ys h = (h.0, all_front P xs ys h.1)

pub all_back : {A : Type 0} (P : A → Type 0) (xs ys : List A) → AllByRecursion P (xs ++ ys) → AllByRecursion P ys
all_back P [] ys h = h
all_back P (x ∷ xs) ys h = all_back P xs ys h.1

pub all_map : {A B : Type 0} (P : B → Type 0) (f : A → B) (xs : List A) → AllByRecursion (λ x. P (f x)) xs → AllByRecursion P (map f xs)
all_map P f [] h = tt
all_map P f (x ∷ xs) h = (h.0, all_map P f xs h.1)
