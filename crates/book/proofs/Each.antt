-- A check of one number after another, up to the first fault.
use Rattle.std.proofs.Common.{◌≡◌, ℕ, ◌-◌, List, [], ◌∷◌, ◌++◌, map, Option, Some, None, MatchOption, IsErrAnd, Ok, Err, Result, sym, refl, ap, ◌∙◌, subst, ap₂, arith}
use mathlib.Core.List.{map-append}
use denote.Param.Members.{Mut}
use Rattle.std.specs.Fn.{Called}
use Rattle.std.specs.Iterator.{Yields, YieldsThen, AlwaysYields}
use Rattle.std.specs.Result.{IsErr}
use Rattle.std.specs.List.{FoldsTo, AllByRecursion}
use Rattle.std.proofs.lemmas.Iterator.{YieldsList}
use Rattle.exact.specs.Cyclotomic.{Cyclotomic}
use Rattle.chains.specs.Books.{Book}
use Rattle.book.specs.declared.fault.BookFault.{BookFault}
use Rattle.book.specs.Points.{Point, Passed, FirstFault, Judged}
use Rattle.book.proofs.Judging.{later, sooner, judged_err}

pub up_to : (n m : ℕ) → n ≡ m → n - 0 ≡ m
up_to n m e = omega arith

module _ (E : Cyclotomic) (B : Book E) {S : Type 0} (v : S → E.Elem) (p : ℕ → Point) {T F : Type 0} {X : Type 0} (steps : T → Option ℕ → T → Type 0) (g : Mut F (ℕ × Unit {0}) (Result (Unit {0}) (BookFault S))) (f : F) (fault_in : X → BookFault S) where
  -- a call that goes on, and one that breaks off
  abbrev GoesOn : F → ℕ → F → Type 0
  GoesOn h x q = (r : Result (Unit {0}) (BookFault S)) × Called g h (x, tt) r q × (r ≡ Ok tt)

  abbrev BreaksOff : F → ℕ → Result (Unit {0}) (BookFault S) → Type 0
  BreaksOff h x r = (w : Result (Unit {0}) (BookFault S)) × (q : F) × (y : X) × Called g h (x, tt) w q × (w ≡ Err (fault_in y)) × (IsErr r × IsErrAnd r (λ z. z ≡ fault_in y))

  -- the call judges the point of its number
  module _ (judges : (x : ℕ) (r : Result (Unit {0}) (BookFault S)) (q : F) → Called g f (x, tt) r q → (q ≡ f) × Judged E B v r (p x ∷ [])) where
    passed_at : (r : Result (Unit {0}) (BookFault S)) (x : ℕ) → r ≡ Ok tt → Judged E B v r (p x ∷ []) → Passed E B (p x)
    passed_at (Ok y) x e j = j.is.0
    passed_at (Err y) x e j = absurd (cc)

    Stops : List ℕ → List ℕ → Option ℕ → Type 0
    Stops xs all o = MatchOption o (all ≡ xs) (λ x. (after : List ℕ) × (all ≡ xs ++ x ∷ after))

    more : (o : Option ℕ) (x z : ℕ) (xs all : List ℕ) → x ≡ z → Stops xs all o → Stops (x ∷ xs) (z ∷ all) o
    unfolding Stops
    more None x z xs all e k = ap₂ (λ y l. y ∷ l) (sym e) k
    more (Some w) x z xs all e k = (k.0, ap₂ (λ y l. y ∷ l) (sym e) k.1)

    goes : (xs all : List ℕ) (s t u : T) (q : F) (o : Option ℕ) → AlwaysYields steps (λ x. x) s all → Yields steps s xs t → FoldsTo GoesOn f xs q → steps t o u →
        (q ≡ f) × AllByRecursion (Passed E B) (map p xs) × Stops xs all o
    unfolding Stops
    goes [] [] s t u q None e y c h = (sym c, tt, refl)
    goes [] [] s t u q (Some x) e y c h = absurd (e x u (subst (λ k. steps k (Some x) u) (sym y) h))
    goes [] (z ∷ all) s t u q None e y c h = absurd (e.0 u (subst (λ k. steps k None u) (sym y) h))
    goes [] (z ∷ all) s t u q (Some x) e y c h = (sym c, tt, (all, ap (λ k. k ∷ all) (sym (e.1 x u (subst (λ k. steps k (Some x) u) (sym y) h)).0)))
    goes (x ∷ xs) [] s t u q o e y c h = absurd (e x y.0 y.1)
    goes (x ∷ xs) (z ∷ all) s t u q o e y c h =
        let a = judges x c.1.0 c.0 c.1.1 in
        let k = goes xs all y.0 t u q o (e.1 x y.0 y.1).1 y.2 (subst (λ k. FoldsTo GoesOn k xs q) a.0 c.2) h in
        (k.0, (passed_at c.1.0 x c.1.2 a.1, k.1), more o x z xs all (e.1 x y.0 y.1).0 k.2)

    pub each_judged : (s u : T) (all : List ℕ) (r : Result (Unit {0}) (BookFault S)) → YieldsList steps (λ x. x) s all →
        (xs : List ℕ) × (o : Option ℕ) × (h : F) × YieldsThen steps s xs o u × FoldsTo GoesOn f xs h × MatchOption o (r ≡ Ok tt) (λ x. BreaksOff h x r) → Judged E B v r (map p all)
    unfolding Stops
    each_judged s u all r road d = ends d.1 (goes d.0 all s d.3.0 u d.2 d.1 road.runs d.3.1 d.4 d.3.2) d.5
      where
        fault : (w : Result (Unit {0}) (BookFault S)) (y : BookFault S) (ps : List Point) → w ≡ Err y → Judged E B v w ps → FirstFault E B v ps y
        fault w y ps e j = (subst (λ k. Judged E B v k ps) e j).is

        ends : (o : Option ℕ) → (d.2 ≡ f) × AllByRecursion (Passed E B) (map p d.0) × Stops d.0 all o → MatchOption o (r ≡ Ok tt) (λ x. BreaksOff d.2 x r) → Judged E B v r (map p all)
        ends None k t = subst (λ w. Judged E B v w (map p all)) (sym t) (record { is = subst (λ l. AllByRecursion (Passed E B) (map p l)) (sym k.2) k.1 })
        ends (Some x) k t =
            let j = (judges x t.0 t.1 (subst (λ h. Called g h (x, tt) t.0 t.1) k.0 t.3)).1 in
            let n = fault t.0 (fault_in t.2) (p x ∷ []) t.4 j in
            judged_err E B v r (fault_in t.2) (map p all) t.5.1
            (subst (λ ps. FirstFault E B v ps (fault_in t.2)) (sym (ap (map p) k.2.1 ∙ map-append p d.0 (x ∷ k.2.0)))
            (later E B v (map p d.0) (p x ∷ map p k.2.0) (fault_in t.2) k.1 (sooner E B v (p x ∷ []) (map p k.2.0) (fault_in t.2) n)))
