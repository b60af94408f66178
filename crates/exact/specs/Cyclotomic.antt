-- An exact ring: the whole-number combinations of the powers of ζ, a turn by one n-th of a circle.
-- Coefficients are unbounded, so no operation refuses.
use Rattle.std.specs.Prelude.{◌≡◌, ℕ, ◌/◌, ◌%◌, ◌≤◌, Bool, List, [], ◌∷◌, length, ℤ, pos, negsuc, neg_ℤ}
use Rattle.std.specs.Ordering.{int_eq}
use Rattle.std.specs.Cmp.Lexicographic.{pointwise}

-- An element is meant by a list of d coefficients c0, c1, .. and stands for c0 + c1ζ + c2ζ² + ..
-- Conjugation mirrors in the real axis; the height is the sign of the imaginary part.
pub record Cyclotomic : Type 1 where
  pub Elem : Type 0
  pub n : ℕ
  pub d : ℕ
  pub list : Elem → List ℤ
  pub of : List ℤ → Elem
  pub zero : Elem
  pub one : Elem
  pub zeta : Elem
  pub add : Elem → Elem → Elem
  pub mul : Elem → Elem → Elem
  pub neg : Elem → Elem
  pub conj : Elem → Elem
  pub height : Elem → ℤ

-- ζ^k
abbrev pub power : (E : Cyclotomic) → ℕ → E.Elem
power E ℕ.zero = E.one
power E (ℕ.suc k) = E.mul E.zeta (power E k)

-- half a turn, as a number of steps of one n-th
abbrev pub half : Cyclotomic → ℕ
half E = E.n / 2

-- x added to itself k times, and a whole number of times
abbrev pub copies : (E : Cyclotomic) → ℕ → E.Elem → E.Elem
copies E ℕ.zero x = E.zero
copies E (ℕ.suc k) x = E.add x (copies E k x)

abbrev pub whole_times : (E : Cyclotomic) → ℤ → E.Elem → E.Elem
whole_times E (pos k) x = copies E k x
whole_times E (negsuc k) x = E.neg (copies E (ℕ.suc k) x)

-- c0 + c1ζ + c2ζ² + .. of a list c0, c1, c2, ..
abbrev pub combination : (E : Cyclotomic) → List ℤ → E.Elem
combination E [] = E.zero
combination E (c ∷ cs) = E.add (whole_times E c E.one) (E.mul E.zeta (combination E cs))

-- Whether two elements have the same list of coefficients.
abbrev pub same_element : (E : Cyclotomic) → E.Elem → E.Elem → Bool
same_element E x y = pointwise int_eq (E.list x) (E.list y)

-- The laws of a commutative ring with one.
pub record CommutativeLaws {A : Type 0} (zero one : A) (add mul : A → A → A) (neg : A → A) : Type 0 where
  pub add_assoc : (x y z : A) → add (add x y) z ≡ add x (add y z)
  pub add_comm : (x y : A) → add x y ≡ add y x
  pub add-zero : (x : A) → add x zero ≡ x
  pub add_neg : (x : A) → add x (neg x) ≡ zero
  pub mul_assoc : (x y z : A) → mul (mul x y) z ≡ mul x (mul y z)
  pub mul_comm : (x y : A) → mul x y ≡ mul y x
  pub mul_one : (x : A) → mul x one ≡ x
  pub mul_add : (x y z : A) → mul x (add y z) ≡ add (mul x y) (mul x z)

pub record CyclotomicLaws (E : Cyclotomic) : Type 0 where
  -- an element and its list of d coefficients determine each other, and it is what its list stands for
  pub list_length : (x : E.Elem) → length (E.list x) ≡ E.d
  pub list_of : (l : List ℤ) → length l ≡ E.d → E.list (E.of l) ≡ l
  pub of_list : (x : E.Elem) → E.of (E.list x) ≡ x
  pub stands_for : (x : E.Elem) → combination E (E.list x) ≡ x
  pub ring : CommutativeLaws E.zero E.one E.add E.mul E.neg
  pub conj_conj : (x : E.Elem) → E.conj (E.conj x) ≡ x
  pub conj_add : (x y : E.Elem) → E.conj (E.add x y) ≡ E.add (E.conj x) (E.conj y)
  pub conj_mul : (x y : E.Elem) → E.conj (E.mul x y) ≡ E.mul (E.conj x) (E.conj y)
  pub few : 4 ≤ E.n
  pub many : E.n ≤ 256
  pub even : E.n % 2 ≡ 0
  pub half_turn : power E (half E) ≡ E.neg E.one
  pub unit_length : E.mul E.zeta (E.conj E.zeta) ≡ E.one
  pub height_zeta : E.height E.zeta ≡ pos 1
  pub height_neg : (z : E.Elem) → E.height (E.neg z) ≡ neg_ℤ (E.height z)
  pub height_real : (z : E.Elem) → E.conj z ≡ z → E.height z ≡ pos 0
  pub height_add : (x y : E.Elem) → E.height x ≡ pos 1 → E.height y ≡ pos 1 → E.height (E.add x y) ≡ pos 1
