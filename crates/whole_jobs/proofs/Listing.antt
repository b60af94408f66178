-- What steps leave of a caller's list.
use Rattle.std.proofs.Common.{◌≡◌, ℕ, ◌+◌, ◌-◌, ◌<◌, ◌≤◌, min, List, length, take, drop, set, ℤ, sym, refl, ap, subst, ◌∙◌, arith}
use Rattle.std.proofs.lemmas.List.{length-take, length-map, length-set, take-set, take-take, drop-set-lt, drop-drop}
use Rattle.exact.specs.Cyclotomic.{Cyclotomic}
use Rattle.calls.specs.Limits.{usable}
use Rattle.calls.specs.Records.{row_view, records}
use Rattle.calls.specs.declared.row.Row.{Row}
use Rattle.whole_jobs.specs.Whole.{Grown}

pub counted : {C : Type 0} (E : Cyclotomic) (listed : C → List ℤ) (count : ℕ) (rows : List (Row C)) → length (records E listed count rows) ≡ min count (length rows)
counted E listed count rows = length-map (take count rows) (row_view E listed) ∙ length-take count rows

pub has_room : {C : Type 0} (E : Cyclotomic) (listed : C → List ℤ) (count : ℕ) (rows : List (Row C)) → length (records E listed count rows) < usable (length rows) → count < usable (length rows)
has_room E listed count rows h = omega (arith, counted E listed count rows)

-- lists that agree as far as one place agree as far as a place before it, and those that agree from one place on do so from a place behind it
same_before : {A : Type 0} (a b : ℕ) (ys zs : List A) → a ≤ b → take b zs ≡ take b ys → take a zs ≡ take a ys
same_before a b ys zs h e = sym (take-take a b zs h) ∙ ap (take a) e ∙ take-take a b ys h

same_behind : {A : Type 0} (b c : ℕ) (ys zs : List A) → b ≤ c → drop b zs ≡ drop b ys → drop c zs ≡ drop c ys
same_behind b c ys zs h e =
    let k : b + (c - b) ≡ c = omega arith in
    ap (λ n. drop n zs) (sym k) ∙ sym (drop-drop (c - b) b zs) ∙ ap (drop (c - b)) e ∙ drop-drop (c - b) b ys ∙ ap (λ n. drop n ys) k

module _ {C : Type 0} where
  pub none_written : (n : ℕ) (xs : List (Row C)) → Grown n n xs xs
  none_written n xs = record { more = omega arith; room = λ r. r; as_long = refl; before = refl; behind = refl }

  pub one_written : (n m : ℕ) (xs ys : List (Row C)) (r : Row C) → n < usable (length xs) → m ≡ n + 1 → ys ≡ set xs n r → Grown n m xs ys
  one_written n m xs ys r h k e = record {
    more = omega arith;
    room = λ _. omega arith;
    as_long = ap length e ∙ length-set xs n r;
    before = ap (take n) e ∙ take-set xs n r;
    behind = ap (drop m) e ∙ drop-set-lt m xs n r (omega arith);
  }

  pub more_written : (a b c : ℕ) (xs ys zs : List (Row C)) → Grown a b xs ys → Grown b c ys zs → Grown a c xs zs
  more_written a b c xs ys zs g h = record {
    more = let m = g.more in let n = h.more in omega arith;
    room = λ r. subst (λ n. c ≤ usable n) g.as_long (h.room (subst (λ n. b ≤ usable n) (sym g.as_long) (g.room r)));
    as_long = h.as_long ∙ g.as_long;
    before = same_before a b ys zs g.more h.before ∙ g.before;
    behind = h.behind ∙ same_behind b c xs ys h.more g.behind;
  }
