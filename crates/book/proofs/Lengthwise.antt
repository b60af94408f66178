-- Lengths added up from the last part on.
use Rattle.std.proofs.Common.{◌≡◌, List, [], ◌∷◌, ◌++◌, map, Option, Some, None, MatchOption, IsErrAnd, Ok, Err, Result, Bor, sym, ap, ◌∙◌, subst, append_assoc, append-nil}
use mathlib.Core.List.{reverse, map-append}
use denote.Param.Members.{Mut}
use Rattle.std.specs.Fn.{Called}
use Rattle.std.specs.Result.{IsErr}
use Rattle.std.specs.Iterator.{Yields, YieldsThen, AlwaysYields}
use Rattle.std.specs.List.{FoldsTo}
use Rattle.std.proofs.lemmas.List.{reverse-append, reverse-reverse}
use Rattle.std.proofs.lemmas.Iterator.{YieldsList}
use Rattle.exact.specs.Cyclotomic.{Cyclotomic}
use Rattle.exact.specs.JobNumbers as numbers
use Rattle.rings.specs.declared.fault.RingFault.{RingFault}
use Rattle.rings.specs.Plane.{OnPlane}
use Rattle.rings.specs.Answers.{Exactly}
use Rattle.chains.specs.Books as books
use Rattle.chains.specs.Books.{label_at}
use Rattle.chains.specs.Accepted.{lengths}
use Rattle.job_rows.specs.declared.Part.{Part}
use Rattle.job_rows.specs.Shapes.{part_of}
use Rattle.edges.specs.Answers.{Worked}
use Rattle.book.specs.Points.{KeptLengths}
use Rattle.book.proofs.Tests.{broke_off}

turn : (z : Part) (all done : List Part) → reverse (z ∷ all) ++ done ≡ reverse all ++ z ∷ done
turn z all done = ap (λ l. l ++ done) (reverse-append (z ∷ []) all) ∙ append_assoc (reverse all) (z ∷ []) done

module _ (E : Cyclotomic) (B : books.Book E) where
  -- the lengths from some part on are on the plane, where all are
  kept_from : (front : List numbers.Part) (p : numbers.Part) (ps : List numbers.Part) → KeptLengths E B (front ++ p ∷ ps) → OnPlane E (lengths E B (p ∷ ps))
  unfolding KeptLengths
  kept_from [] p ps k = k.0
  kept_from (q ∷ qs) p ps k = kept_from qs p ps k.1

  module _ {S T F X : Type 0} (v : S → E.Elem) (steps : T → Option (Bor Part) → T → Type 0) (g : Mut F (S × (Bor Part × Unit {0})) (Result S RingFault)) (f : F) (fault_in : X → RingFault) where
    -- a call that goes on, and one that breaks off
    abbrev GoesOn : F × S → Bor Part → F × S → Type 0
    GoesOn p x q = (r : Result S RingFault) × Called g p.0 (p.1, (x, tt)) r q.0 × (r ≡ Ok q.1)

    abbrev BreaksOff : F → S → Bor Part → Result S RingFault → Type 0
    BreaksOff h b x r = (w : Result S RingFault) × (q : F) × (y : X) × Called g h (b, (x, tt)) w q × (w ≡ Err (fault_in y)) × (IsErr r × IsErrAnd r (λ z. z ≡ fault_in y))

    -- the call adds the length of its part
    module _ (adds : (b : S) (x : Bor Part) (r : Result S RingFault) (q : F) → Called g f (b, (x, tt)) r q → (q ≡ f) × Exactly E v r (E.add (label_at B x.now.label).length (v b))) where
      abbrev Sum : S → List Part → Type 0
      Sum b done = (v b ≡ lengths E B (map part_of done)) × KeptLengths E B (map part_of done)

      added : (r : Result S RingFault) (b c : S) (x : Part) (done : List Part) → r ≡ Ok c → Exactly E v r (E.add (label_at B x.label).length (v b)) → Sum b done → Sum c (x ∷ done)
      unfolding lengths KeptLengths
      added r b c x done e a s =
          let k = (subst (λ w. Exactly E v w (E.add (label_at B x.label).length (v b))) e a).is in
          let m = ap (E.add (label_at B x.label).length) s.0 in
          (k.0 ∙ m, (subst (OnPlane E) m k.1, s.1))

      -- where the calls end: all are added up, or the call at x breaks off
      Ends : List Part → F × S → Option (Bor Part) → Type 0
      Ends all q o = MatchOption o (Sum q.1 all) (λ x. (done : List Part) × (front : List Part) × (q.0 ≡ f) × Sum q.1 done × (all ≡ front ++ x.now ∷ done))

      goes : (xs : List (Bor Part)) (all : List Part) (s t u : T) (q : F × S) (o : Option (Bor Part)) (b : S) (done : List Part) → Sum b done →
          AlwaysYields steps (λ y. y.now) s all → Yields steps s xs t → FoldsTo GoesOn (f, b) xs q → steps t o u → Ends (reverse all ++ done) q o
      unfolding Ends
      goes [] [] s t u q None b done m e y c h = subst (λ (p : F × S). Sum p.1 done) c m
      goes [] [] s t u q (Some x) b done m e y c h = absurd (e x u (subst (λ k. steps k (Some x) u) (sym y) h))
      goes [] (z ∷ all) s t u q None b done m e y c h = absurd (e.0 u (subst (λ k. steps k None u) (sym y) h))
      goes [] (z ∷ all) s t u q (Some x) b done m e y c h = (
        done,
        reverse all,
        ap (λ (p : F × S). p.0) (sym c),
        subst (λ (p : F × S). Sum p.1 done) c m,
        turn z all done ∙ ap (λ k. reverse all ++ k ∷ done) (sym (e.1 x u (subst (λ k. steps k (Some x) u) (sym y) h)).0),
      )
      goes (x ∷ xs) [] s t u q o b done m e y c h = absurd (e x y.0 y.1)
      goes (x ∷ xs) (z ∷ all) s t u q o b done m e y c h =
          let n = (e.1 x y.0 y.1).0 in
          let a = adds b x c.1.0 c.0.0 c.1.1 in
          let k = subst (λ p. Sum c.0.1 (p ∷ done)) n (added c.1.0 b c.0.1 x.now done c.1.2 a.1 m) in
          subst (λ l. Ends l q o) (sym (turn z all done)) (goes xs all y.0 t u q o c.0.1 (z ∷ done) k (e.1 x y.0 y.1).1 y.2 (subst (λ p. FoldsTo GoesOn (p, c.0.1) xs q) a.0 c.2) h)

      pub summed : (row : List Part) (s u : T) (zero : S) (r : Result S RingFault) → v zero ≡ E.zero → YieldsList steps (λ y. y.now) s (reverse row) →
          (xs : List (Bor Part)) × (o : Option (Bor Part)) × (h : F) × (a : S) × YieldsThen steps s xs o u × FoldsTo GoesOn (f, zero) xs (h, a) × MatchOption o (r ≡ Ok a) (λ x. BreaksOff h a x r) →
          Worked r (λ z. v z ≡ lengths E B (map part_of row)) (KeptLengths E B (map part_of row))
      unfolding Ends lengths KeptLengths
      summed row s u zero r z road d = ends d.1 (subst (λ l. Ends l (d.2, d.3) d.1) whole (goes d.0 (reverse row) s d.4.0 u (d.2, d.3) d.1 zero [] (z, tt) road.runs d.4.1 d.5 d.4.2)) d.6
        where
          whole : reverse (reverse row) ++ [] ≡ row
          whole = append-nil (reverse (reverse row)) ∙ reverse-reverse row

          ends : (o : Option (Bor Part)) → Ends row (d.2, d.3) o → MatchOption o (r ≡ Ok d.3) (λ x. BreaksOff d.2 d.3 x r) → Worked r (λ z. v z ≡ lengths E B (map part_of row)) (KeptLengths E B (map part_of row))
          ends None k t = subst (λ w. Worked w (λ z. v z ≡ lengths E B (map part_of row)) (KeptLengths E B (map part_of row))) (sym t) (record { is = k })
          ends (Some x) k t =
              let a = (adds d.3 x t.0 t.1 (subst (λ h. Called g h (d.3, (x, tt)) t.0 t.1) k.2 t.3)).1 in
              let n = (subst (λ w. Exactly E v w (E.add (label_at B x.now.label).length (v d.3))) t.4 a).is in
              let m = ap (map part_of) k.4 ∙ map-append part_of k.1 (x.now ∷ k.0) in
              broke_off r _ _ _ (fault_in t.2) t.5.1
              (λ l. subst (OnPlane E) (ap (E.add (label_at B x.now.label).length) (sym k.3.0)) (kept_from (map part_of k.1) (part_of x.now) (map part_of k.0) (subst (KeptLengths E B) m l))) n
