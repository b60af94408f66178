-- A list of parts read backwards, and what makes two parts mirror each other.
use Rattle.std.proofs.Common.{◌≡◌, ℕ, suc, ◌-◌, ◌<◌, ◌≤◌, Bool, true, false, not, cond, ◌&&◌, ◌==◌, List, [], ◌∷◌, ◌++◌, map, length, get_or, Option, Decides, sym, refl, ap, ◌∙◌, subst, inl, inr, arith}
use mathlib.Core.Bool.{beq}
use mathlib.Core.List.{reverse, map-append}
use Rattle.std.proofs.lemmas.Bool.{cases_lt}
use Rattle.std.proofs.lemmas.List.{length-append, get_or_append_left, get_or-append_right, reverse-append}
use Rattle.std.specs.Iterator.{AlwaysYields}
use Rattle.std.proofs.lemmas.Iterator.{YieldsList}
use Rattle.exact.specs.Cyclotomic.{Cyclotomic}
use Rattle.exact.specs.JobNumbers as numbers
use Rattle.chains.specs.Books as books
use Rattle.chains.specs.Books.{label_at}
use Rattle.chains.specs.Accepted.{backwards, turned_part}
use Rattle.job_rows.specs.declared.Part.{Part}
use Rattle.job_rows.specs.Shapes.{part_of}

-- what the items of an iterator stand for
module _ {T A B C : Type 0} (steps : T → Option A → T → Type 0) (v : A → B) (h : B → C) where
  seen_at : (ys : List B) (s : T) → AlwaysYields steps v s ys → AlwaysYields steps (λ x. h (v x)) s (map h ys)
  seen_at [] s e = e
  seen_at (y ∷ ys) s e = (e.0, λ x j k. (ap h (e.1 x j k).0, seen_at ys j (e.1 x j k).1))

  pub seen : {s : T} (ys : List B) → YieldsList steps v s ys → YieldsList steps (λ x. h (v x)) s (map h ys)
  seen {s} ys e = record { runs = seen_at ys s e.runs }

module _ (E : Cyclotomic) (B : books.Book E) where
  pub back_length : (ps : List numbers.Part) → length (backwards E B ps) ≡ length ps
  unfolding backwards
  back_length [] = refl
  back_length (p ∷ ps) = let k = back_length ps in simp length-append (omega arith)

  pub back_at : (ps : List numbers.Part) (k : ℕ) (d : numbers.Part) → k < length ps → get_or (backwards E B ps) k d ≡ turned_part E B (get_or ps (length ps - 1 - k) d)
  unfolding backwards
  back_at [] k d h = absurd (omega arith)
  back_at (p ∷ ps) k d h = elim (cases_lt k (length ps)) [
    | inl l ↦ get_or_append_left (backwards E B ps) (turned_part E B p ∷ []) d k (subst (◌<◌ k) (sym (back_length ps)) l) ∙ back_at ps k d l
        ∙ ap (turned_part E B) (ap (λ n. get_or (p ∷ ps) n d) (ahead (length ps) k l))
    | inr l ↦ get_or-append_right (backwards E B ps) (turned_part E B p ∷ []) (length ps) k d (back_length ps) l
        ∙ ap (λ n. get_or (turned_part E B p ∷ []) n d) (none (length ps) k l h) ∙ ap (turned_part E B) (ap (λ n. get_or (p ∷ ps) n d) (first (length ps) k l h))
  ]
    where
      ahead : (n k : ℕ) → k < n → suc (n - 1 - k) ≡ suc n - 1 - k
      ahead n k h = omega arith

      none : (n k : ℕ) → n ≤ k → k < suc n → k - n ≡ 0
      none n k h l = omega arith

      first : (n k : ℕ) → n ≤ k → k < suc n → 0 ≡ suc n - 1 - k
      first n k h l = omega arith

  abbrev pub turned_row : Part → numbers.Part
  turned_row x = turned_part E B (part_of x)

  backwards_is : (row : List Part) → map turned_row (reverse row) ≡ backwards E B (map part_of row)
  unfolding backwards
  backwards_is [] = refl
  backwards_is (x ∷ xs) = ap (map turned_row) (reverse-append (x ∷ []) xs) ∙ map-append turned_row (reverse xs) (x ∷ []) ∙ ap (λ l. l ++ turned_row x ∷ []) (backwards_is xs)

  -- a test of the row's parts against those of the row reversed
  pub tells_backwards : (row : List Part) (t : Bool) → Decides t (map part_of row ≡ map turned_row (reverse row)) → Decides t (backwards E B (map part_of row) ≡ map part_of row)
  tells_backwards row t d = (λ h. sym (d.0 h ∙ backwards_is row), λ e. d.1 (sym (backwards_is row ∙ e)))

  turned_is : (b : numbers.Part) (arrowed : Bool) → arrowed ≡ (label_at B b.label).arrowed → record { label = b.label; forward = not (beq b.forward arrowed) } ≡ turned_part E B b
  unfolding turned_part
  turned_is b arrowed k = ap (λ f. record { label = b.label; forward = f }) (turns b.forward arrowed ∙ ap (λ a. cond a (not b.forward) b.forward) k)
    where
      turns : (f a : Bool) → not (beq f a) ≡ cond a (not f) f
      turns true true = refl
      turns true false = refl
      turns false true = refl
      turns false false = refl

  -- `==` of two rows decides whether the one stands for the other's turned part
  pub mirrored : (a b : Part) (arrowed t : Bool) → arrowed ≡ (label_at B b.label).arrowed → t ≡ (a.label == b.label && beq a.forward (not (beq b.forward arrowed))) → Decides t (part_of a ≡ turned_part E B (part_of b))
  mirrored a b arrowed t k e =
      let m = turned_is (part_of b) arrowed k in (
        λ h. same a.label b.label a.forward _ (sym e ∙ h) ∙ m,
        λ q. e ∙ same_back a.label b.label a.forward _ (q ∙ sym m),
      )
    where
      same : (l l' : ℕ) (f f' : Bool) → (l == l' && beq f f') ≡ true → ◌≡◌ {A = numbers.Part} (record { label = l; forward = f }) (record { label = l'; forward = f' })
      same l l' f f' h = grind arith

      same_back : (l l' : ℕ) (f f' : Bool) → ◌≡◌ {A = numbers.Part} (record { label = l; forward = f }) (record { label = l'; forward = f' }) → (l == l' && beq f f') ≡ true
      same_back l l' f f' h = grind arith
