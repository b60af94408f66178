-- Identities of commutative rings, proved by computing: both sides are multiplied out into signed monomials, and what is left of their difference must cancel.
use Rattle.std.proofs.Common.{◌≡◌, ℕ, zero, suc, Bool, true, false, cond, not, ◌&&◌, T, eqb, leb, List, [], ◌∷◌, ◌++◌, sym, refl, ap, ◌∙◌, ap₂, eqb→eq}
use mathlib.Core.Option.{Option, some, none}
use Rattle.exact.specs.Cyclotomic.{CommutativeLaws}

-- a commutative ring with one
pub record Commutative : Type 1 where
  pub R : Type 0
  pub zero : R
  pub one : R
  pub add : R → R → R
  pub mul : R → R → R
  pub neg : R → R
  pub laws : CommutativeLaws zero one add mul neg

-- ---- expressions
pub data Ex : Type 0 where
  v : ℕ → Ex
  nil : Ex
  unit : Ex
  plus : Ex → Ex → Ex
  times : Ex → Ex → Ex
  minus : Ex → Ex

-- ---- signed monomials: a sign, true for plus, and the variables in order
pub data Term : Type 0 where
  term : Bool → List ℕ → Term

abbrev pub insert : ℕ → List ℕ → List ℕ
insert i [] = i ∷ []
insert i (j ∷ m) = cond (leb i j) (i ∷ (j ∷ m)) (j ∷ insert i m)

abbrev pub merge : List ℕ → List ℕ → List ℕ
merge [] m = m
merge (i ∷ l) m = insert i (merge l m)

abbrev pub same : Bool → Bool → Bool
same true b = b
same false b = not b

abbrev pub by_term : Term → Term → Term
by_term (term s l) (term t m) = term (same s t) (merge l m)

abbrev pub each : Term → List Term → List Term
each t [] = []
each t (u ∷ us) = by_term t u ∷ each t us

abbrev pub product : List Term → List Term → List Term
product [] us = []
product (t ∷ ts) us = each t us ++ product ts us

abbrev pub turned : Term → Term
turned (term s m) = term (not s) m

abbrev pub turn : List Term → List Term
turn [] = []
turn (t ∷ ts) = turned t ∷ turn ts

abbrev pub expand : Ex → List Term
expand (v i) = term true (i ∷ []) ∷ []
expand nil = []
expand unit = term true [] ∷ []
expand (plus a b) = expand a ++ expand b
expand (times a b) = product (expand a) (expand b)
expand (minus a) = turn (expand a)

abbrev pub alike : List ℕ → List ℕ → Bool
alike [] [] = true
alike [] (j ∷ m) = false
alike (i ∷ l) [] = false
alike (i ∷ l) (j ∷ m) = eqb i j && alike l m

abbrev pub opposed : Term → Term → Bool
opposed (term s l) (term t m) = not (same s t) && alike l m

abbrev pub keep : Term → Option (List Term) → Option (List Term)
keep u none = none
keep u (some r) = some (u ∷ r)

-- ts without its first monomial that is t's opposite
abbrev pub strike : Term → List Term → Option (List Term)
strike t [] = none
strike t (u ∷ us) = elim (opposed t u) [ true ↦ some us | false ↦ keep u (strike t us) ]

-- all of ts cancels; the first list only counts down
abbrev pub cancels : List Term → List Term → Bool
cancels [] [] = true
cancels [] (t ∷ ts) = false
cancels (f ∷ fs) [] = true
cancels (f ∷ fs) (t ∷ ts) = elim (strike t ts) [ none ↦ false | some r ↦ cancels fs r ]

abbrev pub agree : Ex → Ex → Bool
agree a b = let d = expand a ++ turn (expand b) in cancels d d

module _ (𝓡 : Commutative) where
  abbrev pub nth : List 𝓡.R → ℕ → 𝓡.R
  nth [] i = 𝓡.zero
  nth (x ∷ ρ) zero = x
  nth (x ∷ ρ) (suc i) = nth ρ i

  abbrev pub den : List 𝓡.R → Ex → 𝓡.R
  den ρ (v i) = nth ρ i
  den ρ nil = 𝓡.zero
  den ρ unit = 𝓡.one
  den ρ (plus a b) = 𝓡.add (den ρ a) (den ρ b)
  den ρ (times a b) = 𝓡.mul (den ρ a) (den ρ b)
  den ρ (minus a) = 𝓡.neg (den ρ a)

  abbrev pub prod : List 𝓡.R → List ℕ → 𝓡.R
  prod ρ [] = 𝓡.one
  prod ρ (i ∷ m) = 𝓡.mul (nth ρ i) (prod ρ m)

  abbrev pub signed : Bool → 𝓡.R → 𝓡.R
  signed true x = x
  signed false x = 𝓡.neg x

  abbrev pub val : List 𝓡.R → Term → 𝓡.R
  val ρ (term s m) = signed s (prod ρ m)

  abbrev pub sum : List 𝓡.R → List Term → 𝓡.R
  sum ρ [] = 𝓡.zero
  sum ρ (t ∷ ts) = 𝓡.add (val ρ t) (sum ρ ts)

  -- ---- laws that follow
  pub zero_add : (x : 𝓡.R) → 𝓡.add 𝓡.zero x ≡ x
  zero_add x = 𝓡.laws.add_comm _ _ ∙ 𝓡.laws.add-zero x

  pub add_swap : (x y z : 𝓡.R) → 𝓡.add x (𝓡.add y z) ≡ 𝓡.add y (𝓡.add x z)
  add_swap x y z = sym (𝓡.laws.add_assoc x y z) ∙ ap (λ w. 𝓡.add w z) (𝓡.laws.add_comm x y) ∙ 𝓡.laws.add_assoc y x z

  pub add_mul : (x y z : 𝓡.R) → 𝓡.mul (𝓡.add x y) z ≡ 𝓡.add (𝓡.mul x z) (𝓡.mul y z)
  add_mul x y z = 𝓡.laws.mul_comm _ z ∙ 𝓡.laws.mul_add z x y ∙ ap₂ 𝓡.add (𝓡.laws.mul_comm z x) (𝓡.laws.mul_comm z y)

  pub mul_swap : (x y z : 𝓡.R) → 𝓡.mul x (𝓡.mul y z) ≡ 𝓡.mul y (𝓡.mul x z)
  mul_swap x y z = sym (𝓡.laws.mul_assoc x y z) ∙ ap (λ w. 𝓡.mul w z) (𝓡.laws.mul_comm x y) ∙ 𝓡.laws.mul_assoc y x z

  -- what adds to 0 with x is x's opposite
  pub only_neg : (x y : 𝓡.R) → 𝓡.add x y ≡ 𝓡.zero → y ≡ 𝓡.neg x
  only_neg x y e =
      sym (𝓡.laws.add-zero y) ∙ ap (𝓡.add y) (sym (𝓡.laws.add_neg x)) ∙ add_swap y x (𝓡.neg x) ∙ sym (𝓡.laws.add_assoc x y (𝓡.neg x))
      ∙ ap (λ w. 𝓡.add w (𝓡.neg x)) e ∙ zero_add (𝓡.neg x)

  pub only_zero : (x y : 𝓡.R) → 𝓡.add x y ≡ x → y ≡ 𝓡.zero
  only_zero x y e =
      sym (zero_add y) ∙ ap (λ w. 𝓡.add w y) (sym (𝓡.laws.add_neg x)) ∙ 𝓡.laws.add_assoc x (𝓡.neg x) y ∙ ap (𝓡.add x) (𝓡.laws.add_comm (𝓡.neg x) y)
      ∙ sym (𝓡.laws.add_assoc x y (𝓡.neg x)) ∙ ap (λ w. 𝓡.add w (𝓡.neg x)) e ∙ 𝓡.laws.add_neg x

  pub mul_zero : (x : 𝓡.R) → 𝓡.mul x 𝓡.zero ≡ 𝓡.zero
  mul_zero x = only_zero (𝓡.mul x 𝓡.zero) _ (sym (𝓡.laws.mul_add x _ _) ∙ ap (𝓡.mul x) (𝓡.laws.add-zero 𝓡.zero))

  pub zero_mul : (x : 𝓡.R) → 𝓡.mul 𝓡.zero x ≡ 𝓡.zero
  zero_mul x = 𝓡.laws.mul_comm _ x ∙ mul_zero x

  pub one_mul : (x : 𝓡.R) → 𝓡.mul 𝓡.one x ≡ x
  one_mul x = 𝓡.laws.mul_comm _ x ∙ 𝓡.laws.mul_one x

  pub mul_neg : (x y : 𝓡.R) → 𝓡.mul x (𝓡.neg y) ≡ 𝓡.neg (𝓡.mul x y)
  mul_neg x y = only_neg _ _ (sym (𝓡.laws.mul_add x y _) ∙ ap (𝓡.mul x) (𝓡.laws.add_neg y) ∙ mul_zero x)

  pub neg_mul : (x y : 𝓡.R) → 𝓡.mul (𝓡.neg x) y ≡ 𝓡.neg (𝓡.mul x y)
  neg_mul x y = 𝓡.laws.mul_comm _ y ∙ mul_neg y x ∙ ap 𝓡.neg (𝓡.laws.mul_comm y x)

  pub neg_neg : (x : 𝓡.R) → 𝓡.neg (𝓡.neg x) ≡ x
  neg_neg x = sym (only_neg (𝓡.neg x) x (𝓡.laws.add_comm _ x ∙ 𝓡.laws.add_neg x))

  pub neg_zero : 𝓡.neg 𝓡.zero ≡ 𝓡.zero
  neg_zero = sym (only_neg 𝓡.zero 𝓡.zero (𝓡.laws.add-zero 𝓡.zero))

  pub four : (a b c d : 𝓡.R) → 𝓡.add (𝓡.add a b) (𝓡.add c d) ≡ 𝓡.add (𝓡.add a c) (𝓡.add b d)
  four a b c d = 𝓡.laws.add_assoc a b _ ∙ ap (𝓡.add a) (add_swap b c d) ∙ sym (𝓡.laws.add_assoc a c _)

  pub neg_add : (x y : 𝓡.R) → 𝓡.neg (𝓡.add x y) ≡ 𝓡.add (𝓡.neg x) (𝓡.neg y)
  neg_add x y =
      sym (only_neg (𝓡.add x y) _ (four x y (𝓡.neg x) (𝓡.neg y) ∙ ap₂ 𝓡.add (𝓡.laws.add_neg x) (𝓡.laws.add_neg y) ∙ 𝓡.laws.add-zero 𝓡.zero))

  pub same_when : (x y : 𝓡.R) → 𝓡.add x (𝓡.neg y) ≡ 𝓡.zero → x ≡ y
  same_when x y e = sym (neg_neg x) ∙ sym (ap 𝓡.neg (only_neg x (𝓡.neg y) e)) ∙ neg_neg y

  -- ---- the parts are right
  prod_insert : (ρ : List 𝓡.R) (i : ℕ) (m : List ℕ) → prod ρ (insert i m) ≡ 𝓡.mul (nth ρ i) (prod ρ m)
  prod_insert ρ i [] = refl
  prod_insert ρ i (j ∷ m) = by (leb i j) (prod_insert ρ i m)
    where
      by : (b : Bool) → prod ρ (insert i m) ≡ 𝓡.mul (nth ρ i) (prod ρ m) → prod ρ (cond b (i ∷ (j ∷ m)) (j ∷ insert i m)) ≡ 𝓡.mul (nth ρ i) (𝓡.mul (nth ρ j) (prod ρ m))
      by true h = refl
      by false h = ap (𝓡.mul (nth ρ j)) h ∙ mul_swap _ _ _

  prod_merge : (ρ : List 𝓡.R) (l m : List ℕ) → prod ρ (merge l m) ≡ 𝓡.mul (prod ρ l) (prod ρ m)
  prod_merge ρ [] m = sym (one_mul _)
  prod_merge ρ (i ∷ l) m = prod_insert ρ i (merge l m) ∙ ap (𝓡.mul (nth ρ i)) (prod_merge ρ l m) ∙ sym (𝓡.laws.mul_assoc _ _ _)

  signs : (s t : Bool) (x y : 𝓡.R) → signed (same s t) (𝓡.mul x y) ≡ 𝓡.mul (signed s x) (signed t y)
  signs true true x y = refl
  signs true false x y = sym (mul_neg x y)
  signs false true x y = sym (neg_mul x y)
  signs false false x y = sym (neg_mul x (𝓡.neg y) ∙ ap 𝓡.neg (mul_neg x y) ∙ neg_neg _)

  val_by : (ρ : List 𝓡.R) (t u : Term) → val ρ (by_term t u) ≡ 𝓡.mul (val ρ t) (val ρ u)
  val_by ρ (term s l) (term t m) = ap (signed (same s t)) (prod_merge ρ l m) ∙ signs s t _ _

  sum_each : (ρ : List 𝓡.R) (t : Term) (us : List Term) → sum ρ (each t us) ≡ 𝓡.mul (val ρ t) (sum ρ us)
  sum_each ρ t [] = sym (mul_zero _)
  sum_each ρ t (u ∷ us) = ap₂ 𝓡.add (val_by ρ t u) (sum_each ρ t us) ∙ sym (𝓡.laws.mul_add _ _ _)

  sum_++ : (ρ : List 𝓡.R) (ts us : List Term) → sum ρ (ts ++ us) ≡ 𝓡.add (sum ρ ts) (sum ρ us)
  sum_++ ρ [] us = sym (zero_add _)
  sum_++ ρ (t ∷ ts) us = ap (𝓡.add (val ρ t)) (sum_++ ρ ts us) ∙ sym (𝓡.laws.add_assoc _ _ _)

  sum_product : (ρ : List 𝓡.R) (ts us : List Term) → sum ρ (product ts us) ≡ 𝓡.mul (sum ρ ts) (sum ρ us)
  sum_product ρ [] us = sym (zero_mul _)
  sum_product ρ (t ∷ ts) us = sum_++ ρ (each t us) (product ts us) ∙ ap₂ 𝓡.add (sum_each ρ t us) (sum_product ρ ts us) ∙ sym (add_mul _ _ _)

  val_turned : (ρ : List 𝓡.R) (t : Term) → val ρ (turned t) ≡ 𝓡.neg (val ρ t)
  val_turned ρ (term true m) = refl
  val_turned ρ (term false m) = sym (neg_neg _)

  sum_turn : (ρ : List 𝓡.R) (ts : List Term) → sum ρ (turn ts) ≡ 𝓡.neg (sum ρ ts)
  sum_turn ρ [] = sym neg_zero
  sum_turn ρ (t ∷ ts) = ap₂ 𝓡.add (val_turned ρ t) (sum_turn ρ ts) ∙ sym (neg_add _ _)

  sum_expand : (ρ : List 𝓡.R) (a : Ex) → sum ρ (expand a) ≡ den ρ a
  sum_expand ρ (v i) = 𝓡.laws.add-zero _ ∙ 𝓡.laws.mul_one _
  sum_expand ρ nil = refl
  sum_expand ρ unit = 𝓡.laws.add-zero _
  sum_expand ρ (plus a b) = sum_++ ρ (expand a) (expand b) ∙ ap₂ 𝓡.add (sum_expand ρ a) (sum_expand ρ b)
  sum_expand ρ (times a b) = sum_product ρ (expand a) (expand b) ∙ ap₂ 𝓡.mul (sum_expand ρ a) (sum_expand ρ b)
  sum_expand ρ (minus a) = sum_turn ρ (expand a) ∙ ap 𝓡.neg (sum_expand ρ a)

  -- ---- cancelling is right
  both : (a b : Bool) → T (a && b) → T a × T b
  both true true h = (tt, tt)
  both true false h = absurd h
  both false b h = absurd h

  alike_same : (l m : List ℕ) → T (alike l m) → l ≡ m
  alike_same [] [] h = refl
  alike_same [] (j ∷ m) h = absurd h
  alike_same (i ∷ l) [] h = absurd h
  alike_same (i ∷ l) (j ∷ m) h = let p = both (eqb i j) (alike l m) h in ap₂ ◌∷◌ (eqb→eq i j p.0) (alike_same l m p.1)

  opposed_zero : (ρ : List 𝓡.R) (t u : Term) → T (opposed t u) → 𝓡.add (val ρ t) (val ρ u) ≡ 𝓡.zero
  opposed_zero ρ (term s l) (term t m) h =
      let p = both (not (same s t)) (alike l m) h in
      ap (λ k. 𝓡.add (signed s (prod ρ l)) (signed t (prod ρ k))) (sym (alike_same l m p.1)) ∙ by s t p.0 (prod ρ l)
    where
      by : (s t : Bool) → T (not (same s t)) → (x : 𝓡.R) → 𝓡.add (signed s x) (signed t x) ≡ 𝓡.zero
      by true true h x = absurd h
      by true false h x = 𝓡.laws.add_neg x
      by false true h x = 𝓡.laws.add_comm _ x ∙ 𝓡.laws.add_neg x
      by false false h x = absurd h

  abbrev Struck : List 𝓡.R → Term → List Term → Option (List Term) → Type 0
  Struck ρ t ts none = Unit {0}
  Struck ρ t ts (some r) = 𝓡.add (val ρ t) (sum ρ ts) ≡ sum ρ r

  struck_keep : (ρ : List 𝓡.R) (t u : Term) (us : List Term) (o : Option (List Term)) → Struck ρ t us o → Struck ρ t (u ∷ us) (keep u o)
  struck_keep ρ t u us none h = tt
  struck_keep ρ t u us (some r) h = add_swap _ _ _ ∙ ap (𝓡.add (val ρ u)) h

  struck : (ρ : List 𝓡.R) (t : Term) (ts : List Term) → Struck ρ t ts (strike t ts)
  struck ρ t [] = tt
  struck ρ t (u ∷ us) = by (opposed t u) (opposed_zero ρ t u) (struck_keep ρ t u us (strike t us) (struck ρ t us))
    where
      by : (b : Bool) → (T b → 𝓡.add (val ρ t) (val ρ u) ≡ 𝓡.zero) → Struck ρ t (u ∷ us) (keep u (strike t us)) → Struck ρ t (u ∷ us) (elim b [ true ↦ some us | false ↦ keep u (strike t us) ])
      by true h k = sym (𝓡.laws.add_assoc _ _ _) ∙ ap (λ w. 𝓡.add w (sum ρ us)) (h tt) ∙ zero_add _
      by false h k = k

  cancelled : (ρ : List 𝓡.R) (fs ts : List Term) → T (cancels fs ts) → sum ρ ts ≡ 𝓡.zero
  cancelled ρ [] [] h = refl
  cancelled ρ [] (t ∷ ts) h = absurd h
  cancelled ρ (f ∷ fs) [] h = refl
  cancelled ρ (f ∷ fs) (t ∷ ts) h = by (strike t ts) (struck ρ t ts) (cancelled ρ fs) h
    where
      by : (o : Option (List Term)) → Struck ρ t ts o → ((r : List Term) → T (cancels fs r) → sum ρ r ≡ 𝓡.zero) → T (elim o [ none ↦ false | some r ↦ cancels fs r ]) → 𝓡.add (val ρ t) (sum ρ ts) ≡ 𝓡.zero
      by none s rec h = absurd h
      by (some r) s rec h = s ∙ rec r h

  -- the two sides are equal at all values of the variables
  pub solve : (ρ : List 𝓡.R) (a b : Ex) → T (agree a b) → den ρ a ≡ den ρ b
  solve ρ a b h =
      same_when _ _ (sym (sum_++ ρ (expand a) (turn (expand b)) ∙ ap₂ 𝓡.add (sum_expand ρ a) (sum_turn ρ (expand b) ∙ ap 𝓡.neg (sum_expand ρ b)))
      ∙ cancelled ρ _ (expand a ++ turn (expand b)) h)
