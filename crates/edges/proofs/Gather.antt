-- Lists that are made one entry after another, and the exits of a `?` on the way.
use Rattle.std.proofs.Common.{◌≡◌, ℕ, ◌+◌, ◌<◌, ◌≤◌, List, [], ◌∷◌, ◌++◌, map, length, get_or, drop, IsErrAnd, Ok, Err, Result, sym, ap, ◌∙◌, subst, append_assoc, append-nil}
use mathlib.Core.List.{map-append}
use Rattle.std.specs.List.{AllByRecursion}
use Rattle.std.proofs.lemmas.List.{at_drop_more, at_drop_all, drop_more, drop_all, get_or-map, length-map}
use Rattle.std.proofs.ByRecursion.{All-get_or}
use Rattle.rings.specs.declared.fault.RingFault.{RingFault}
use Rattle.rings.specs.declared.fault.RingFault.TheVariants.{OffPlane}
use Rattle.edges.specs.declared.fault.ChainFault.{ChainFault}
use Rattle.edges.specs.declared.fault.ChainFault.TheVariants.{Ring, Memory}
use Rattle.edges.specs.Answers.{Made, Excused}

-- ---- what a list stands for, and what is still to come
module _ {C Y : Type 0} (view : C → Y) where
  -- one more entry, of those that are to come
  pub pushed : (out out' : List C) (r : C) (head : Y) (rest all : List Y) → out' ≡ out ++ r ∷ [] → view r ≡ head → map view out ++ (head ∷ rest) ≡ all → map view out' ++ rest ≡ all
  pushed out out' r head rest all e k h =
      ap (λ l. map view l ++ rest) e ∙ ap (λ l. l ++ rest) (map-append view out (r ∷ [])) ∙ append_assoc (map view out) (view r ∷ []) rest
      ∙ ap (λ x. map view out ++ (x ∷ rest)) k ∙ h

  module _ {X : Type 0} (f : X → Y) (xs : List X) (i : ℕ) where
    pub push_more : (out out' : List C) (r : C) (x : X) (all : List Y) → out' ≡ out ++ r ∷ [] → i < length xs → x ≡ get_or xs i x → view r ≡ f x →
        map view out ++ map f (drop i xs) ≡ all → map view out' ++ map f (drop (i + 1) xs) ≡ all
    push_more out out' r x all e h is k inv =
        pushed out out' r (f (get_or xs i x)) (map f (drop (i + 1) xs)) all e (k ∙ ap f is) (ap (λ l. map view out ++ l) (sym (at_drop_more (map f) xs i x h)) ∙ inv)

    pub push_end : (out : List C) (all : List Y) → length xs ≤ i → map view out ++ map f (drop i xs) ≡ all → map view out ≡ all
    push_end out all h inv = sym (append-nil _) ∙ ap (λ l. map view out ++ l) (sym (at_drop_all (map f) xs i h)) ∙ inv

pub behind_none : {Y : Type 0} (out ys : List Y) → out ≡ [] → out ++ ys ≡ ys
behind_none out ys h = ap (λ l. l ++ ys) h

-- lists put one behind another
module _ {X Y : Type 0} (part : X → List Y) (rest : List X → List Y) (cons : (x : X) (xs : List X) → rest (x ∷ xs) ≡ part x ++ rest xs) (none : rest [] ≡ []) (xs : List X) (i : ℕ) where
  pub join_more : (out out' all : List Y) (x : X) → i < length xs → x ≡ get_or xs i x → out' ≡ out ++ part x → out ++ rest (drop i xs) ≡ all → out' ++ rest (drop (i + 1) xs) ≡ all
  join_more out out' all x h is e inv =
      ap (λ l. l ++ rest (drop (i + 1) xs)) e ∙ append_assoc out (part x) (rest (drop (i + 1) xs)) ∙ ap (λ l. out ++ l) (sym (cons x (drop (i + 1) xs)))
      ∙ ap (λ y. out ++ rest (y ∷ drop (i + 1) xs)) is ∙ ap (λ l. out ++ l) (sym (at_drop_more rest xs i x h)) ∙ inv

  pub join_end : (out all : List Y) → length xs ≤ i → out ++ rest (drop i xs) ≡ all → out ≡ all
  join_end out all h inv = sym (append-nil out) ∙ ap (λ l. out ++ l) (sym (at_drop_all rest xs i h ∙ none)) ∙ inv

-- ---- what holds of all that a list stands for, once it holds of what is still to come
module _ {X Y : Type 0} (f : X → Y) (P : Y → Type 0) (K : Type 0) (xs : List X) (i : ℕ) where
  pub all_step : (x : X) → i < length xs → x ≡ get_or xs i x → P (f x) → (AllByRecursion P (map f (drop i xs)) → K) → AllByRecursion P (map f (drop (i + 1) xs)) → K
  all_step x h is p k a = k (subst (λ l. AllByRecursion P (map f l)) (sym (drop_more xs i x h)) (subst (λ y. P (f y)) is p, a))

  pub all_end : length xs ≤ i → (AllByRecursion P (map f (drop i xs)) → K) → K
  all_end h k = k (subst (λ l. AllByRecursion P (map f l)) (sym (drop_all i xs h)) tt)

-- what holds of all that a list stands for holds of one of them
pub all_row : {X Y : Type 0} (f : X → Y) (P : Y → Type 0) (xs : List X) (i : ℕ) (x : X) → i < length xs → x ≡ get_or xs i x → AllByRecursion P (map f xs) → P (f x)
all_row f P xs i x h is a = subst P (get_or-map f xs i x (f x) h ∙ ap f (sym is)) (All-get_or P (map f xs) i (f x) (simp length-map h) a)

-- ---- answers
pub made_weaker : {A : Type 0} (r : Result A ChainFault) (P P' : A → Type 0) (K K' : Type 0) → ((x : A) → P x → P' x) → (K → K') → (K' → K) → Made r P K → Made r P' K'
made_weaker (Ok x) P P' K K' f h k a = record { is = (f x a.is.0, h a.is.1) }
made_weaker (Err (Ring e)) P P' K K' f h k a = record { is = (a.is.0, λ z. a.is.1 (k z)) }
made_weaker (Err Memory) P P' K K' f h k a = record { is = tt }

-- the exits of a `?`: the ring's refusal, want of memory, and a refusal that is handed on
pub off_plane : {A : Type 0} (r : Result A ChainFault) (P : A → Type 0) (K K' : Type 0) (f : RingFault) → IsErrAnd r (λ y. y ≡ Ring f) → (K' → K) → (f ≡ OffPlane) × (K → ⊥) → Made r P K'
off_plane (Ok x) P K K' f h k n = absurd h
off_plane (Err y) P K K' f h k n = record { is = subst (λ e. Excused e K') (sym h) (n.0, λ z. n.1 (k z)) }

pub no_memory : {A : Type 0} (r : Result A ChainFault) (P : A → Type 0) (K : Type 0) → IsErrAnd r (λ y. y ≡ Memory) → Made r P K
no_memory (Ok x) P K h = absurd h
no_memory (Err y) P K h = record { is = subst (λ e. Excused e K) (sym h) tt }

pub handed_on : {A : Type 0} (r : Result A ChainFault) (P : A → Type 0) (K K' : Type 0) (e : ChainFault) → (K' → K) → Excused e K → IsErrAnd r (λ y. y ≡ e) → Made r P K'
handed_on (Ok x) P K K' e h o k = absurd k
handed_on (Err y) P K K' (Ring f) h o k = record { is = subst (λ e. Excused e K') (sym k) (o.0, λ z. o.1 (h z)) }
handed_on (Err y) P K K' Memory h o k = record { is = subst (λ e. Excused e K') (sym k) tt }
