-- A line or a byte cut from the front of a text. Assumes nothing.
use Rattle.std.proofs.Common.{eqb-true, ◌≤◌, ◌≡◌, ℕ, ◌+◌, ◌-◌, ◌<◌, ◌==◌, eqb, true, false, Some, None, List, [], ◌∷◌, ◌++◌, length, position, get_or, take, drop, sym, refl, ap, ◌∙◌, arith}
use Rattle.std.proofs.lemmas.List.{drop_more, get_or-take, take-append-drop, length-take-le, take_rest, length-append, get_or_at}
use Rattle.std.proofs.lemmas.List.Quantifiers.{position-Some}
use Rattle.std.proofs.lemmas.Bool.Decides.{nat_tests}
use Rattle.std.proofs.lemmas.List.Sums.{fails_before_first}
use Rattle.std.specs.List.{position_or_len}
use Rattle.std.specs.Cmp.Lexicographic.{pointwise}
use Rattle.lines.specs.Lines.{Cut}

-- what `strip_prefix` says of one byte
pub stripped : (b : ℕ) (s x : List ℕ) → (pointwise eqb (take 1 s) (b ∷ []) ≡ true) × (x ≡ drop 1 s) × (length x + 1 ≡ length s) → s ≡ b ∷ x
stripped b [] x h = cc
stripped b (y ∷ s) x h = let k : y ≡ b = eqb-true y b (grind arith) in let e = h.1 in cc

pub cut_at : (s : List ℕ) (i : ℕ) → position (λ b. b == 10) s ≡ Some i → Cut s (take i s) (take (length s - (i + 1)) (drop (i + 1) s))
cut_at s i e =
    let p = position-Some (λ b. b == 10) s i 0 e in
    rw take_rest (record {
      inside = λ k h z. let n = length-take-le i s (omega arith) in let m : k < i = omega arith in let b = p.2 k m in let w : get_or s k 0 ≡ 10 = sym (get_or-take i s k 0 m) ∙ z in grind (arith, nat_tests);
      whole = let w : get_or s i 0 ≡ 10 = grind (arith, nat_tests) in sym (ap (λ t. take i s ++ t) (sym (drop_more s i 0 p.0 ∙ ap (λ b. b ∷ drop (i + 1) s) w)) ∙ take-append-drop i s);
    })

pub ended : (s line rest : List ℕ) → s ≡ line ++ 10 ∷ rest → position (λ b. b == 10) s ≡ None → ⊥
ended s line rest e n =
    let l = ap length e ∙ length-append line (10 ∷ rest) in
    let at : get_or s (length line) 0 ≡ 10 = ap (λ t. get_or t (length line) 0) e ∙ get_or_at line 10 rest 0 (length line) refl in
    let past : length s ≤ position_or_len (λ b. b == 10) s = grind (arith, nat_tests) in
    let f : (get_or s (length line) 0 == 10) ≡ false = fails_before_first (λ b. b == 10) s (length line) 0 (omega arith) in
    grind (arith, nat_tests)
