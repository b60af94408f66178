-- Digits, numbers and their one spelling. Assumes nothing.
use Rattle.std.proofs.Common.{◌≡◌, ℕ, IsUtf8, Result, Ok, Err, None, MatchOption, MatchResult, suc, ◌+◌, ◌-◌, ◌*◌, ◌%◌, ◌^◌, ◌<◌, ◌≤◌, List, [], ◌∷◌, ◌++◌, length, get_or, take, drop, ℤ, pos, negsuc, decimal, sym, refl, ap, ◌∙◌, subst, ⊎_elim, add-zero, pow-suc, add-one, arith}
use native.Mathlib.Nat.{pow-le-pow_right}
use Rattle.std.specs.Str.Parse.{digits_value, digits_value_after}
use Rattle.std.specs.Int.{IsInRange}
use Rattle.std.specs.Char.{digit_value}
use Rattle.std.specs.List.{fold}
use Rattle.std.specs.Result.{result_ok, OkIff}
use Rattle.std.proofs.lemmas.Str.{IsUtf8-from_ascii}
use Rattle.std.proofs.lemmas.Fmt.{decimal-digits_value, digits_decimal, decimal_nonempty, length-decimal-le, first_decimal, decimal_digit, decimal_injective}
use Rattle.std.proofs.lemmas.List.Prefix.{front_reads, front_rest, front_fits}
use Rattle.std.proofs.lemmas.List.{get_or_past, drop_more, drop_all, get_or-drop, get_or-take, take-append-drop, length-take-le, length-append, take_at}
use Rattle.std.proofs.lemmas.Str.Parse.{IsNumeralModel, numerals_by_value, tells_by_index, digits_value_short}
use Rattle.std.proofs.lemmas.Bool.{cases_lt, cases_order, cases_eq}
use Rattle.std.proofs.lemmas.Bool.Decides.{nat_tests}
use Rattle.lines.specs.Spelling.{Few, Ends, Word, Plain, DigitsTo}

abbrev pub AllDigits : List ℕ → Type 0
AllDigits ds = DigitsTo ds (length ds)

pub own : IsNumeralModel AllDigits (digits_value 10)
own = numerals_by_value AllDigits tells_by_index

-- digits are text
digits_utf8 : (ds : List ℕ) → AllDigits ds → IsUtf8 ds
digits_utf8 ds all = IsUtf8-from_ascii ds (λ i. ⊎_elim (λ l. let d = all i l in omega arith) (λ g. omega (arith, get_or_past ds i 0 g)) (cases_lt i (length ds)))

pub always_text : {T E : Type 0} (Q : T → Type 0) (P : E → Type 0) (ds : List ℕ) (r : Result T E) → AllDigits ds → MatchResult r Q (λ e. (IsUtf8 ds → ⊥) × P e) → None ≡ result_ok r → ⊥
always_text Q P ds (Ok s) all h e = cc
always_text Q P ds (Err x) all h e = h.0 (digits_utf8 ds all)

pub few_small : (ds : List ℕ) → AllDigits ds → length ds ≤ 7 → digits_value 10 ds < 2 ^ 32
few_small ds all few = omega (arith, digits_value_short own ds 7 all few)

pub value_read : {E : Type 0} (ds : List ℕ) (r : Result ℕ E) → OkIff r ((0 < length ds) × (digits_value 10 ds < 2 ^ 32)) (digits_value 10 ds) → digits_value 10 ds < 2 ^ 32 → MatchOption (result_ok r) (length ds ≡ 0) (λ n. (0 < length ds) × (n ≡ digits_value 10 ds))
value_read ds (Ok n) h small = (h.0.0, h.1)
value_read ds (Err e) h small = ⊎_elim (λ n. n) (λ n. absurd (h (omega arith, small))) (cases_eq (length ds) 0)

pub digit_is : (c : ℕ) → IsInRange 48 57 c → digit_value c ≡ c - 48
digit_is c h = grind (arith, nat_tests)

pub bound_step : (v d i : ℕ) → v < 10 ^ i → d < 10 → v * 10 + d < 10 ^ (i + 1)
bound_step v d i l m = rw (add-one, pow-suc) (omega arith)

pub below_power : (v i : ℕ) → v < 10 ^ i → i ≤ 6 → v < 1_000_000
below_power v i l h = let p : 10 ^ i ≤ 10 ^ 6 = pow-le-pow_right (omega arith) h in omega arith

-- one digit more, as the machine works it out
abbrev pub digit_more : ℕ → ℕ → ℕ
digit_more n b = (n * 10 % 2 ^ 32 + (b + (2 ^ 8 - 48)) % 2 ^ 8) % 2 ^ 32

more_is : (n b : ℕ) → n < 1_000_000 → IsInRange 48 57 b → digit_more n b ≡ n * 10 + digit_value b
more_is n b l d = rw (digit_is b d) (omega arith)

folded_after : (ds : List ℕ) (n i : ℕ) → AllDigits ds → n < 10 ^ i → i + length ds ≤ 7 → fold digit_more n ds ≡ digits_value_after 10 n ds
folded_after [] n i all low few = refl
folded_after (b ∷ ds) n i all low few =
    let d : IsInRange 48 57 b = all 0 (omega arith) in
    let k : digit_value b < 10 = omega (arith, digit_is b d) in
    ap (λ m. fold digit_more m ds) (more_is n b (below_power n i low (omega arith)) d)
    ∙ folded_after ds (n * 10 + digit_value b) (i + 1) (λ j l. all (suc j) (omega arith)) (bound_step n (digit_value b) i low k) (omega arith)

pub value_folded : (ds : List ℕ) → AllDigits ds → length ds ≤ 7 → fold digit_more 0 ds ≡ digits_value 10 ds
value_folded ds all few = folded_after ds 0 0 all (omega arith) (omega (arith, few))

pub front_first : (s ds : List ℕ) (n : ℕ) → ds ≡ take n s → 0 < n → get_or ds 0 0 ≡ get_or s 0 0
front_first s ds n e l = ap (λ t. get_or t 0 0) e ∙ get_or-take n s 0 0 l

ends_drop : (s : List ℕ) (n : ℕ) → (n < length s → get_or s n 0 ≡ 32) → Ends (drop n s)
ends_drop s n h = ⊎_elim (λ l. subst Ends (sym (drop_more s n 0 l)) (h l)) (λ g. subst Ends (sym (drop_all n s g)) tt) (cases_lt n (length s))

first_left : (l : List ℕ) → Ends l → 0 < length l → get_or l 0 0 ≡ 32
first_left [] h k = absurd (omega arith)
first_left (x ∷ xs) h k = h

after_space : (s : List ℕ) (m : ℕ) (rest : List ℕ) → Plain s m rest → length (decimal m) < length s → get_or s (length (decimal m)) 0 ≡ 32
after_space s m rest p l =
    let r = front_rest s (decimal m) rest p.whole in
    let k = ap length p.whole ∙ length-append (decimal m) rest in
    sym (get_or-drop (length (decimal m)) s 0 0 ∙ ap (λ i. get_or s i 0) (add-zero (length (decimal m)))) ∙ ap (λ t. get_or t 0 0) r ∙ first_left rest p.ends (omega arith)

module _ (s : List ℕ) (n : ℕ) (within : n ≤ length s) (all : DigitsTo s n) where
  taken : AllDigits (take n s)
  taken i l = let e = length-take-le n s within in let k : i < n = omega arith in rw get_or-take (all i k)

  pub plain_front : 0 < n → n ≤ 7 → (get_or s 0 0 ≡ 48 → n ≡ 1) → Ends (drop n s) → Plain s (digits_value 10 (take n s)) (drop n s)
  plain_front some few lead stop =
      let e : length (take n s) ≡ n = length-take-le n s within in
      let v : digits_value 10 (take n s) < 10 ^ 7 = digits_value_short own (take n s) 7 taken (omega arith) in
      let d : decimal (digits_value 10 (take n s)) ≡ take n s =
      decimal-digits_value own (take n s) taken (omega arith) (λ z. let k : get_or (take n s) 0 0 ≡ get_or s 0 0 = get_or-take n s 0 0 some in e ∙ lead (sym k ∙ z)) (omega arith) in
      record {
        few = v;
        whole = sym (ap (λ l. l ++ drop n s) d ∙ take-append-drop n s);
        ends = stop;
      }

  module _ (stops : n < length s → IsInRange 48 57 (get_or s n 0) → ⊥) (m : ℕ) (rest : List ℕ) (p : Plain s m rest) where
    small : m < 2 ^ 64
    small = omega (arith, p.few)

    after_digits : length (decimal m) < length s → get_or s (length (decimal m)) 0 ≡ 32
    after_digits = after_space s m rest p

    digit_of : (i : ℕ) → i < length (decimal m) → IsInRange 48 57 (get_or s i 0)
    digit_of i l = let e = front_reads 0 s (decimal m) rest p.whole i l in rw e (digits_decimal own m small i l)

    pub run_is : n ≡ length (decimal m)
    run_is =
        let f = front_fits s (decimal m) rest p.whole in
        ⊎_elim (λ e. e) (⊎_elim
        (λ l. absurd (stops (omega arith) (digit_of n l)))
        (λ l. let w = all (length (decimal m)) l in let b = after_digits (omega arith) in absurd (omega arith)))
        (cases_order n (length (decimal m)))

    pub run_some : 0 < n
    run_some = omega (arith, run_is, decimal_nonempty m small)

    pub run_few : n ≤ 7
    run_few = omega (arith, run_is, length-decimal-le 7 m (omega arith) p.few small)

    pub run_lead : 1 < n → get_or s 0 0 ≡ 48 → ⊥
    run_lead l z =
        let some = decimal_nonempty m small in
        let e = front_reads 0 s (decimal m) rest p.whole 0 some in
        ⊎_elim (λ i. let k : length (decimal m) ≡ 1 = ap length (decimal_digit m (omega arith)) in omega (arith, run_is))
        (λ i. omega (arith, first_decimal m (omega arith) small))
        (cases_eq m 0)

    pub run_stop : Ends (drop n s)
    run_stop = ends_drop s n (λ l. rw run_is (after_digits (omega (arith, run_is))))

-- a number at the front of s has the run of digits to itself
module _ (s : List ℕ) (m : ℕ) (rest : List ℕ) (p : Plain s m rest) where
  fits : length (decimal m) ≤ length s
  fits = front_fits s (decimal m) rest p.whole

  wide : m < 2 ^ 64
  wide = omega (arith, p.few)

  digits : DigitsTo s (length (decimal m))
  digits i l = let e = front_reads 0 s (decimal m) rest p.whole i l in rw e (digits_decimal own m wide i l)

  stops_at : length (decimal m) < length s → IsInRange 48 57 (get_or s (length (decimal m)) 0) → ⊥
  stops_at l d = let e = after_space s m rest p l in omega arith

  front : take (length (decimal m)) s ≡ decimal m
  front = ap (take (length (decimal m))) p.whole ∙ take_at (decimal m) rest (length (decimal m)) refl

pub plain_unique : (s : List ℕ) (m m' : ℕ) (rest rest' : List ℕ) → Plain s m rest → Plain s m' rest' → (m ≡ m') × (rest ≡ rest')
plain_unique s m m' rest rest' p q =
    let e : length (decimal m) ≡ length (decimal m') = run_is s (length (decimal m)) (fits s m rest p) (digits s m rest p) (stops_at s m rest p) m' rest' q in (
      decimal_injective m m' (wide s m rest p) (wide s m' rest' q) (sym (front s m rest p) ∙ ap (λ n. take n s) e ∙ front s m' rest' q),
      sym (front_rest s (decimal m) rest p.whole) ∙ ap (λ n. drop n s) e ∙ front_rest s (decimal m') rest' q.whole,
    )

-- the byte after a space, and what a sign leaves
first_not_minus : (n : ℕ) (rest ds : List ℕ) → Few n → decimal n ++ rest ≡ 45 ∷ ds → ⊥
first_not_minus n rest ds f e =
    let w : n < 2 ^ 64 = omega arith in
    let some = decimal_nonempty n w in
    let d = digits_decimal own n w 0 some in
    let r = front_reads 0 (45 ∷ ds) (decimal n) rest (sym e) 0 some in
    omega arith

-- after a space and a minus
pub minus_word : (s t ds : List ℕ) → s ≡ 32 ∷ t → t ≡ 45 ∷ ds → (z : ℤ) (rest : List ℕ) → Word s z rest → (n : ℕ) × (z ≡ negsuc n) × Plain ds (suc n) rest
minus_word s t ds a b (pos n) rest w = let e : decimal n ++ rest ≡ 45 ∷ ds = let h = w.whole in cc in absurd (first_not_minus n rest ds w.short e)
minus_word s t ds a b (negsuc n) rest w = (n, refl, record { few = w.short; whole = (let h = w.whole in cc); ends = w.ends })

-- one text has at most one number at its front
pub word_unique : (s : List ℕ) (z z' : ℤ) (rest rest' : List ℕ) → Word s z rest → Word s z' rest' → (z ≡ z') × (rest ≡ rest')
word_unique s (pos n) (pos m) rest rest' p q =
    let t : List ℕ = decimal n ++ rest in
    let a : Plain t n rest = record { few = p.short; whole = refl; ends = p.ends } in
    let b : Plain t m rest' = record { few = q.short; whole = (let h = p.whole in let k = q.whole in cc); ends = q.ends } in
    let u = plain_unique t n m rest rest' a b in
    (ap pos u.0, u.1)
word_unique s (pos n) (negsuc m) rest rest' p q = absurd (first_not_minus n rest (decimal (suc m) ++ rest') p.short (let h = p.whole in let k = q.whole in cc))
word_unique s (negsuc n) (pos m) rest rest' p q = absurd (first_not_minus m rest' (decimal (suc n) ++ rest) q.short (let h = p.whole in let k = q.whole in cc))
word_unique s (negsuc n) (negsuc m) rest rest' p q =
    let t : List ℕ = decimal (suc n) ++ rest in
    let a : Plain t (suc n) rest = record { few = p.short; whole = refl; ends = p.ends } in
    let b : Plain t (suc m) rest' = record { few = q.short; whole = (let h = p.whole in let k = q.whole in cc); ends = q.ends } in
    let u = plain_unique t (suc n) (suc m) rest rest' a b in
    (ap negsuc (omega (arith, u.0)), u.1)
