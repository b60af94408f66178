-- Texts put into a buffer one behind the other.
use Rattle.std.proofs.Common.{◌≡◌, ℕ, ◌+◌, ◌<◌, ◌≤◌, List, [], ◌∷◌, ◌++◌, length, take, get_or, Some, None, Option, sym, ap, ap₂, ◌∙◌, subst, append-nil, arith}
use Rattle.std.specs.List.{flat_map}
use Rattle.std.proofs.lemmas.List.{length-append, take_more}
use Rattle.std.proofs.lemmas.List.Folds.{length-flat_map-take}
use Rattle.std.proofs.lemmas.Grind.{flat_map-append}
use Rattle.saves.specs.Written.{with_bytes}
use Rattle.saves.proofs.Buffers.{with_more}
use Rattle.cutting.specs.Puts.{Puts}

-- ---- what is put
-- one text behind the other
pub puts_both : (old mid new : List ℕ) (at m : ℕ) (a b : List ℕ) (r : Option ℕ) → Puts old at a mid (Some m) → Puts mid m b new r → Puts old at (a ++ b) new r
puts_both old mid new at m a b None p q = let n = length-append a b in omega arith
puts_both old mid new at m a b (Some e) p q =
    let n = length-append a b in
    let put : e ≤ length old → new ≡ with_bytes old at (a ++ b) = λ fits.
    q.2 (omega arith)
    ∙ ap₂ (λ l k. with_bytes l k b) (p.2 (omega arith)) p.0
    ∙ with_more old at a b (omega arith) in
    (omega arith, q.1 ∙ p.1, put)

-- what is beyond all places with the first of two texts is so with both
pub puts_no_more : (old new : List ℕ) (at : ℕ) (a b : List ℕ) (r : Option ℕ) → r ≡ None → Puts old at a new None → Puts old at (a ++ b) new r
puts_no_more old new at a b r e p = let n = length-append a b in subst (Puts old at (a ++ b) new) (sym e) (omega arith)

-- ---- a text for each item: x is item i
module _ {X : Type 0} (f : X → List ℕ) (xs : List X) (i : ℕ) (x d : X) (inside : i < length xs) (is : x ≡ get_or xs i d) (old mid new : List ℕ) (at m : ℕ) (so_far : Puts old at (flat_map f (take i xs)) mid (Some m)) where
  more : flat_map f (take i xs) ++ f x ≡ flat_map f (take (i + 1) xs)
  more =
      ap (λ y. flat_map f (take i xs) ++ f y) is
      ∙ ap (λ l. flat_map f (take i xs) ++ l) (sym (append-nil (f (get_or xs i d))))
      ∙ sym (flat_map-append f (take i xs) (get_or xs i d ∷ []))
      ∙ ap (λ l. flat_map f l) (sym (take_more xs i d inside))

  pub puts_next : (e : ℕ) → Puts mid m (f x) new (Some e) → Puts old at (flat_map f (take (i + 1) xs)) new (Some e)
  puts_next e p = subst (λ l. Puts old at l new (Some e)) more (puts_both old mid new at m (flat_map f (take i xs)) (f x) (Some e) so_far p)

  pub puts_stop : (r : Option ℕ) → r ≡ None → Puts mid m (f x) new None → Puts old at (flat_map f xs) new r
  puts_stop r e p =
      let n = length-flat_map-take f xs i d inside in
      let same = ap (λ y. length (f y)) is in
      subst (Puts old at (flat_map f xs) new) (sym e) (omega arith)
