-- Coefficients add each by itself, in every ring.
use Rattle.std.proofs.Common.{◌≡◌, ℕ, zero, suc, List, [], ◌∷◌, length, get_or, ℤ, pos, negsuc, ◌+ℤ◌, ◌-ℤ◌, neg_ℤ, sym, refl, ap, ◌∙◌, ap₂, arith}
use Rattle.std.proofs.lemmas.Int.{ints}
use Rattle.std.proofs.lemmas.List.{ext_get_or}
use Rattle.exact.specs.Cyclotomic.{Cyclotomic, CyclotomicLaws, copies, whole_times, combination}
use Rattle.exact.specs.Groups.{AbelianGroup, AbelianLaws, repeated, times}
use Rattle.exact.proofs.Powers.{ring_of}
use Rattle.exact.proofs.Solver as solver
use Rattle.rings.proofs.Multiples as multiples

-- two lists added place by place
abbrev pub added : List ℤ → List ℤ → List ℤ
added [] m = []
added (a ∷ l) [] = []
added (a ∷ l) (b ∷ m) = (a +ℤ b) ∷ added l m

pub added_length : (l m : List ℤ) → length l ≡ length m → length (added l m) ≡ length l
added_length [] m h = refl
added_length (a ∷ l) [] h = absurd (omega arith)
added_length (a ∷ l) (b ∷ m) h = ap suc (added_length l m (omega arith))

added_at : (l m : List ℤ) → length l ≡ length m → (k : ℕ) → get_or (added l m) k (pos 0) ≡ get_or l k (pos 0) +ℤ get_or m k (pos 0)
added_at [] [] h k = refl
added_at [] (b ∷ m) h k = absurd (omega arith)
added_at (a ∷ l) [] h k = absurd (omega arith)
added_at (a ∷ l) (b ∷ m) h zero = refl
added_at (a ∷ l) (b ∷ m) h (suc k) = added_at l m (omega arith) k

no_number : (a : ℤ) → a +ℤ a ≡ a → a ≡ pos 0
no_number a h = omega (arith, ints)

opposite_number : (a b : ℤ) → a +ℤ b ≡ pos 0 → b ≡ neg_ℤ a
opposite_number a b h = omega (arith, ints)

module _ (E : Cyclotomic) (L : CyclotomicLaws E) where
  abbrev sums : AbelianGroup
  sums = record { Val = E.Elem; zero = E.zero; sum = E.add; opposite = E.neg }

  group_laws : AbelianLaws sums
  group_laws = record { sum_comm = L.ring.add_comm; sum_assoc = L.ring.add_assoc; sum_zero = L.ring.add-zero; sum_opposite = L.ring.add_neg }

  copies_are : (k : ℕ) (x : E.Elem) → copies E k x ≡ repeated sums k x
  unfolding repeated
  copies_are zero x = refl
  copies_are (suc k) x = ap (E.add x) (copies_are k x)

  whole_times_are : (c : ℤ) (x : E.Elem) → whole_times E c x ≡ times sums c x
  unfolding times
  whole_times_are (pos k) x = copies_are k x
  whole_times_are (negsuc k) x = ap E.neg (copies_are (suc k) x)

  whole_times_add : (a b : ℤ) (x : E.Elem) → whole_times E (a +ℤ b) x ≡ E.add (whole_times E a x) (whole_times E b x)
  whole_times_add a b x = whole_times_are (a +ℤ b) x ∙ multiples.times_add sums group_laws a b x ∙ sym (ap₂ E.add (whole_times_are a x) (whole_times_are b x))

  regroup : (p q z c d : E.Elem) → E.add (E.add p q) (E.mul z (E.add c d)) ≡ E.add (E.add p (E.mul z c)) (E.add q (E.mul z d))
  regroup p q z c d =
      let v = solver.v in
      solver.solve (ring_of E L) (p ∷ q ∷ z ∷ c ∷ d ∷ [])
      (solver.plus (solver.plus (v 0) (v 1)) (solver.times (v 2) (solver.plus (v 3) (v 4)))) (solver.plus (solver.plus (v 0) (solver.times (v 2) (v 3))) (solver.plus (v 1) (solver.times (v 2) (v 4)))) tt

  combination_add : (l m : List ℤ) → length l ≡ length m → combination E (added l m) ≡ E.add (combination E l) (combination E m)
  combination_add [] [] h = sym (L.ring.add-zero E.zero)
  combination_add [] (b ∷ m) h = absurd (omega arith)
  combination_add (a ∷ l) [] h = absurd (omega arith)
  combination_add (a ∷ l) (b ∷ m) h =
      ap₂ (λ u w. E.add u (E.mul E.zeta w)) (whole_times_add a b E.one) (combination_add l m (omega arith)) ∙ regroup _ _ _ _ _

  -- the coefficients of a sum
  pub list_add : (x y : E.Elem) → E.list (E.add x y) ≡ added (E.list x) (E.list y)
  list_add x y =
      let l = E.list x in let m = E.list y in
      let same : length l ≡ length m = L.list_length x ∙ sym (L.list_length y) in
      let n : length (added l m) ≡ E.d = added_length l m same ∙ L.list_length x in
      let k = L.list_of (added l m) n in
      ap E.list (ap₂ E.add (sym (L.stands_for x)) (sym (L.stands_for y)) ∙ sym (combination_add l m same) ∙ ap (combination E) (sym k) ∙ L.stands_for (E.of (added l m))) ∙ k

  -- number by number
  list_add_at : (x y : E.Elem) (k : ℕ) → get_or (E.list (E.add x y)) k (pos 0) ≡ get_or (E.list x) k (pos 0) +ℤ get_or (E.list y) k (pos 0)
  list_add_at x y k = ap (λ l. get_or l k (pos 0)) (list_add x y) ∙ added_at (E.list x) (E.list y) (L.list_length x ∙ sym (L.list_length y)) k

  list_zero_at : (k : ℕ) → get_or (E.list E.zero) k (pos 0) ≡ pos 0
  list_zero_at k = no_number _ (sym (list_add_at E.zero E.zero k) ∙ ap (λ z. get_or (E.list z) k (pos 0)) (L.ring.add-zero E.zero))

  list_neg_at : (x : E.Elem) (k : ℕ) → get_or (E.list (E.neg x)) k (pos 0) ≡ neg_ℤ (get_or (E.list x) k (pos 0))
  list_neg_at x k = opposite_number _ _ (sym (list_add_at x (E.neg x) k) ∙ ap (λ z. get_or (E.list z) k (pos 0)) (L.ring.add_neg x) ∙ list_zero_at k)

  element_by_all : (l : List ℤ) (z : E.Elem) → length l ≡ E.d → ((k : ℕ) → get_or l k (pos 0) ≡ get_or (E.list z) k (pos 0)) → E.of l ≡ z
  element_by_all l z n h = ap E.of (ext_get_or (pos 0) l (E.list z) (n ∙ sym (L.list_length z)) (λ k lt. h k)) ∙ L.of_list z

  -- a list whose numbers are the sums stands for the sum, one whose numbers are the differences for the difference
  pub sum_of : (x y : E.Elem) (l : List ℤ) → length l ≡ E.d → ((k : ℕ) → get_or l k (pos 0) ≡ get_or (E.list x) k (pos 0) +ℤ get_or (E.list y) k (pos 0)) → E.of l ≡ E.add x y
  sum_of x y l n h = element_by_all l (E.add x y) n (λ k. h k ∙ sym (list_add_at x y k))

  pub difference_of : (x y : E.Elem) (l : List ℤ) → length l ≡ E.d → ((k : ℕ) → get_or l k (pos 0) ≡ get_or (E.list x) k (pos 0) -ℤ get_or (E.list y) k (pos 0)) → E.of l ≡ E.add x (E.neg y)
  difference_of x y l n h =
      element_by_all l (E.add x (E.neg y)) n (λ k. h k ∙ ap (λ c. get_or (E.list x) k (pos 0) +ℤ c) (sym (list_neg_at y k)) ∙ sym (list_add_at x (E.neg y) k))
