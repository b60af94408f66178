-- Rows of numbers, read as values. Assumes nothing.
use Rattle.std.proofs.Common.{◌≡◌, ℕ, zero, suc, ◌+◌, ◌*◌, ◌/◌, ◌%◌, ◌<◌, ◌≤◌, List, [], ◌∷◌, ◌++◌, map, length, get_or, take, drop, ℤ, Some, None, Option, MatchOption, Ok, Err, Result, MatchResult, Vec, Global, vec_items, sym, refl, ap, ◌∙◌, subst, ap₂, arith}
use Rattle.std.specs.List.{flat_map, AllByRecursion}
use Rattle.std.specs.Simd.{first_chunks}
use Rattle.std.proofs.Math.Nat.{mul-div_cancel_left, mul-mod_right, mod-eq-sub-div-mul, div-mul-le_self}
use Rattle.std.proofs.lemmas.List.{get_or_default, take_more, take_at, drop_at, nil_from_length, length-drop, take-append-drop}
use Rattle.jobs.specs.declared.draft.Misfit.{Misfit}
use Rattle.jobs.specs.Drafts.{Unfit}
use Rattle.jobs.proofs.Decodes.{unfit_map}
use Rattle.jobs.proofs.Series.{length_rows}
use Rattle.jobs.specs.RowLists.{rows_of, Read, RowsSay, NoRows, left_over, refused}

read_append : {R : Type 0} (says : List ℤ → Option R → Type 0) (rows : List (List ℤ)) (vs : List R) (row : List ℤ) (v : R) → Read says rows vs → says row (Some v) → Read says (rows ++ row ∷ []) (vs ++ v ∷ [])
read_append says [] [] row v h s = (s, tt)
read_append says [] (u ∷ vs) row v h s = absurd h
read_append says (r ∷ rows) [] row v h s = absurd h
read_append says (r ∷ rows) (u ∷ vs) row v h s = (h.0, read_append says rows vs row v h.1 s)

pub read_push : {R : Type 0} (says : List ℤ → Option R → Type 0) (rows : List (List ℤ)) (i : ℕ) (vs : List R) (row : List ℤ) (v : R) → i < length rows → row ≡ get_or rows i row → Read says (take i rows) vs → says row (Some v) → Read says (take (i + 1) rows) (vs ++ v ∷ [])
read_push says rows i vs row v l e h s = subst (λ t. Read says t (vs ++ v ∷ [])) (sym (take_more rows i row l ∙ ap (λ r. take i rows ++ r ∷ []) (sym e))) (read_append says (take i rows) vs row v h s)

pub refused_at : {R : Type 0} (n : ℕ) (says : List ℤ → Option R → Type 0) (ns : List ℤ) (rows : List (List ℤ)) (k : ℕ) (row : List ℤ) → rows ≡ rows_of n ns → k < length rows → row ≡ get_or rows k row → says row None → NoRows n says ns
refused_at n says ns rows k row e l r s = refused k (subst (λ t. k < length t) e l) (subst (λ t. says t None) (r ∙ get_or_default rows k row [] l ∙ ap (λ t. get_or t k []) e) s)

-- rows of values that all have n numbers
module _ {Y : Type 0} (n : ℕ) (f : Y → List ℤ) (sized : (y : Y) → length (f y) ≡ n) where
  first_rows : (ys : List Y) → first_chunks n (length ys) (flat_map f ys) ≡ map f ys
  first_rows [] = refl
  first_rows (y ∷ ys) =
      ap₂ (λ r t. r ∷ first_chunks n (length ys) t) (take_at (f y) (flat_map f ys) n (sized y)) (drop_at (f y) (flat_map f ys) n (sized y))
      ∙ ap (λ t. f y ∷ t) (first_rows ys)

  rows_back : 0 < n → (ns : List ℤ) (ys : List Y) → ns ≡ flat_map f ys → (length ns % n ≡ 0) × (rows_of n ns ≡ map f ys)
  rows_back some ns ys e =
      let l : length ns ≡ n * length ys = ap length e ∙ length_rows n f sized ys in
      let k : length ns / n ≡ length ys = ap (λ m. m / n) l ∙ mul-div_cancel_left (length ys) some in
      (ap (λ m. m % n) l ∙ mul-mod_right n (length ys), ap₂ (λ m t. first_chunks n m t) k e ∙ first_rows ys)

  module _ {R : Type 0} (view : R → Y) (fits : Y → Type 0) where
    -- what a row's reading tells of the row
    abbrev pub Told : (List ℤ → Option R → Type 0) → Type 0
    Told says = (row : List ℤ) (r : Option R) → says row r → MatchOption r ((y : Y) → fits y → row ≡ f y → ⊥) (λ v. fits (view v) × (row ≡ f (view v)))

    read_all : (says : List ℤ → Option R → Type 0) → Told says → (k : ℕ) (ns : List ℤ) (vs : List R) → length ns ≡ k * n → Read says (first_chunks n k ns) vs → AllByRecursion fits (map view vs) × (ns ≡ flat_map f (map view vs))
    read_all says told zero ns [] l h = (tt, nil_from_length ns (omega arith))
    read_all says told zero ns (v ∷ vs) l h = absurd h
    read_all says told (suc k) ns [] l h = absurd h
    read_all says told (suc k) ns (v ∷ vs) l h =
        let t = told (take n ns) (Some v) h.0 in
        let a = read_all says told k (drop n ns) vs (let d = length-drop n ns in omega arith) h.1 in
        ((t.0, a.0), sym (take-append-drop n ns) ∙ ap₂ (λ x y. x ++ y) t.1 a.1)

    pub rows_read : (says : List ℤ → Option R → Type 0) (ns : List ℤ) (vs : List R) → RowsSay n says ns vs → Told says → AllByRecursion fits (map view vs) × (ns ≡ flat_map f (map view vs))
    rows_read says ns vs h told = read_all says told (length ns / n) ns vs (let d = mod-eq-sub-div-mul (length ns) n in let m = div-mul-le_self (length ns) n in omega (arith, h.even)) h.read

    unread : (says : List ℤ → Option R → Type 0) → Told says → (rows : List (List ℤ)) (ys : List Y) → rows ≡ map f ys → AllByRecursion fits ys → (k : ℕ) → k < length rows → says (get_or rows k []) None → ⊥
    unread says told [] ys e h k l s = omega arith
    unread says told (row ∷ rows) [] e h k l s = cc
    unread says told (row ∷ rows) (y ∷ ys) e h zero l s = told row None s y h.0 (cc)
    unread says told (row ∷ rows) (y ∷ ys) e h (suc k) l s = unread says told rows ys (cc) h.1 k (omega arith) s

    pub rows_unread : (says : List ℤ → Option R → Type 0) (ns : List ℤ) → NoRows n says ns → Told says → 0 < n → (ys : List Y) → AllByRecursion fits ys → ns ≡ flat_map f ys → ⊥
    rows_unread says ns (left_over odd) told some ys h e = odd (rows_back some ns ys e).0
    rows_unread says ns (refused k l s) told some ys h e = unread says told (rows_of n ns) ys (rows_back some ns ys e).1 h k l s

    -- a line of rows, neither too few nor too many
    pub line_read : (low high : ℕ) (says : List ℤ → Option R → Type 0) (ns : List ℤ) (r : Result (Vec R Global) Misfit) → MatchResult r (λ v. RowsSay n says ns (vec_items v)) (Unfit (NoRows n says ns)) → Told says → 0 < n → ((m : ℕ) → length ns ≡ n * m → (low ≤ m) × (m ≤ high))
        → MatchResult r
        (λ v. ((low ≤ length (map view (vec_items v))) × (length (map view (vec_items v)) ≤ high) × AllByRecursion fits (map view (vec_items v))) × (ns ≡ flat_map f (map view (vec_items v))))
        (Unfit ((ys : List Y) → (low ≤ length ys) × (length ys ≤ high) × AllByRecursion fits ys → ns ≡ flat_map f ys → ⊥))
    line_read low high says ns (Ok v) h told some bounds =
        let a = rows_read says ns (vec_items v) h told in
        let l = bounds _ (ap length a.1 ∙ length_rows n f sized (map view (vec_items v))) in
        ((l.0, l.1, a.0), a.1)
    line_read low high says ns (Err e) h told some bounds = unfit_map e h (λ lacks ys g. rows_unread says ns lacks told some ys g.2)
