-- Points passed one after another, and the first that is not.
use Rattle.std.proofs.Common.{◌≡◌, ℕ, ◌+◌, ◌<◌, List, [], ◌∷◌, ◌++◌, map, length, drop, IsErrAnd, Ok, Err, Result, sym, refl, ap, ◌∙◌, subst, append_assoc, arith, MatchResult}
use Rattle.std.specs.List.{range_with_len, AllByRecursion}
use Rattle.std.proofs.lemmas.List.{take-append-drop, drop_more}
use Rattle.std.proofs.lemmas.List.FromFn.{length-map-range_with_len, get_or-map-range_with_len, take-map-range_with_len}
use Rattle.std.proofs.ByRecursion.{All-get_or, All-from_get_or}
use Rattle.exact.specs.Cyclotomic.{Cyclotomic}
use Rattle.chains.specs.Books.{Book}
use Rattle.chains.specs.Accepted.{Accepted}
use Rattle.chains.proofs.Lists.{all_append, all_front, all_back}
use Rattle.edges.specs.declared.fault.ChainFault.{ChainFault}
use Rattle.edges.specs.declared.fault.ChainFault.TheVariants as chain
use Rattle.edges.specs.Answers.{Excused}
use Rattle.book.specs.declared.fault.BookFault.{BookFault}
use Rattle.book.specs.declared.fault.BookFault.TheVariants.{Factor, Length, Subdivision, Outline, Unbalanced, Ring, Memory}
use Rattle.book.specs.Faults.{passed_on}
use Rattle.book.specs.Points.{Point, Holds, Kept, Passed, Refuses, FirstFault, Judged, Rejects, WorkedOnThePlane, points, length_points, subdivision_points, outline_points, children_points}
use Rattle.book.specs.Points.Point.{the_factor, length_of, subdivision_of, outline_of, children_of}
use Rattle.book.proofs.Balances.{no_difference}

-- what holds of every number below n holds of all that they are numbers of, and the other way
module _ {X : Type 0} (P : X → Type 0) (f : ℕ → X) where
  pub all_below : (n : ℕ) → ((k : ℕ) → k < n → P (f k)) → AllByRecursion P (map f (range_with_len 0 n))
  all_below n h = All-from_get_or P (map f (range_with_len 0 n)) (f 0)
      (λ i l. let m = subst (λ k. i < k) (length-map-range_with_len f 0 n) l in subst P (sym (get_or-map-range_with_len f 0 n i i (f 0) m (omega arith))) (h i m))

  pub each_below : (n k : ℕ) → k < n → AllByRecursion P (map f (range_with_len 0 n)) → P (f k)
  each_below n k h a = subst P (get_or-map-range_with_len f 0 n k k (f 0) h (omega arith)) (All-get_or P (map f (range_with_len 0 n)) k (f 0) (subst (λ m. k < m) (sym (length-map-range_with_len f 0 n)) h) a)

  -- number k of them, and what stands around it
  pub split_at : (n k : ℕ) → k < n → (after : List X) × (map f (range_with_len 0 n) ≡ map f (range_with_len 0 k) ++ f k ∷ after)
  split_at n k h =
      let l = map f (range_with_len 0 n) in
      let m = subst (λ m. k < m) (sym (length-map-range_with_len f 0 n)) h in (
        drop (k + 1) l,
        sym (take-append-drop k l) ∙ ap (λ t. t ++ drop k l) (take-map-range_with_len f 0 n k (omega arith))
            ∙ ap (λ t. map f (range_with_len 0 k) ++ t) (drop_more l k (f 0) m ∙ ap (λ x. x ∷ drop (k + 1) l) (get_or-map-range_with_len f 0 n k k (f 0) h (omega arith))),
      )

-- what holds of all holds of one in the middle
middle : {X : Type 0} (P : X → Type 0) (xs before : List X) (x : X) (after : List X) → xs ≡ before ++ x ∷ after → AllByRecursion P xs → P x
middle P xs before x after e a = (all_back P before (x ∷ after) (subst (AllByRecursion P) e a)).0

module _ (E : Cyclotomic) (B : Book E) {S : Type 0} (v : S → E.Elem) where
  -- where there is but one point
  pub alone : (p : Point) (f : BookFault S) → Refuses E B v p f → FirstFault E B v (p ∷ []) f
  alone p f r = record { before = []; here = p; after = []; found = refl; earlier = tt; refuses = r }

  -- after points that are passed, and before others
  pub later : (xs ys : List Point) (f : BookFault S) → AllByRecursion (Passed E B) xs → FirstFault E B v ys f → FirstFault E B v (xs ++ ys) f
  later xs ys f a r = record { before = xs ++ r.before; here = r.here; after = r.after; found = ap (λ l. xs ++ l) r.found ∙ sym (append_assoc xs r.before (r.here ∷ r.after)); earlier = all_append (Passed E B) xs r.before a r.earlier; refuses = r.refuses }

  pub sooner : (xs ys : List Point) (f : BookFault S) → FirstFault E B v xs f → FirstFault E B v (xs ++ ys) f
  sooner xs ys f r = record { before = r.before; here = r.here; after = r.after ++ ys; found = ap (λ l. l ++ ys) r.found ∙ append_assoc r.before (r.here ∷ r.after) ys; earlier = r.earlier; refuses = r.refuses }

  pub judged_later : {A : Type 0} (r : Result A (BookFault S)) (xs ys : List Point) → AllByRecursion (Passed E B) xs → Judged E B v r ys → Judged E B v r (xs ++ ys)
  judged_later (Ok x) xs ys a j = record { is = all_append (Passed E B) xs ys a j.is }
  judged_later (Err f) xs ys a j = record { is = later xs ys f a j.is }

  -- the exits of a `?`
  pub judged_err : {A : Type 0} (r : Result A (BookFault S)) (f : BookFault S) (ps : List Point) → IsErrAnd r (λ y. y ≡ f) → FirstFault E B v ps f → Judged E B v r ps
  judged_err (Ok x) f ps h k = absurd h
  judged_err (Err y) f ps h k = record { is = subst (FirstFault E B v ps) (sym h) k }

  -- a point at which the ring refused, or no memory was found
  pub excused : (p : Point) (f : ChainFault) → Excused f (Kept E B p) → Refuses E B v p (passed_on f)
  excused p (chain.Ring f) h = h
  excused p chain.Memory h = tt

  -- ---- what a verdict says of the whole book
  pub accepted : AllByRecursion (Passed E B) (points E B) → Accepted E B × WorkedOnThePlane E B
  unfolding points
  accepted a =
      let P = Passed E B in
      let a1 = a.1 in
      let a2 = all_back P (length_points E B) (subdivision_points E B ++ (outline_points E B ++ children_points E B)) a1 in
      let a3 = all_back P (subdivision_points E B) (outline_points E B ++ children_points E B) a2 in (
        record {
          factor_fits = a.0.1;
          lengths_fit = λ e h. (each_below P length_of (length B.labels) e h (all_front P (length_points E B) _ a1)).1;
          subdivisions_fit = λ e h. (each_below P subdivision_of (length B.labels) e h (all_front P (subdivision_points E B) _ a2)).1;
          outlines_close = λ t h. (each_below P outline_of (length B.tiles) t h (all_front P (outline_points E B) _ a3)).1;
          children_balance = λ t h. (each_below P children_of (length B.tiles) t h (all_back P (outline_points E B) _ a3)).1;
        },
        kept (points E B) a,
      )
    where
      kept : (ps : List Point) → AllByRecursion (Passed E B) ps → AllByRecursion (Kept E B) ps
      kept [] a = tt
      kept (p ∷ ps) a = (a.0.0, kept ps a.1)

  pub all_hold : Accepted E B → AllByRecursion (Holds E B) (points E B)
  unfolding points
  all_hold a =
      let H = Holds E B in (
        a.factor_fits,
        all_append H (length_points E B) _ (all_below H length_of (length B.labels) a.lengths_fit)
            (all_append H (subdivision_points E B) _ (all_below H subdivision_of (length B.labels) a.subdivisions_fit)
            (all_append H (outline_points E B) _ (all_below H outline_of (length B.tiles) a.outlines_close) (all_below H children_of (length B.tiles) a.children_balance))),
      )

  pub rejected : (f : BookFault S) → FirstFault E B v (points E B) f → Rejects E B v f
  rejected (Factor n) k = λ a. k.refuses.2 (middle (Holds E B) (points E B) k.before k.here k.after k.found (all_hold a))
  rejected (Length e) k = λ a. k.refuses.1 (middle (Holds E B) (points E B) k.before k.here k.after k.found (all_hold a))
  rejected (Subdivision e) k = λ a. k.refuses.1 (middle (Holds E B) (points E B) k.before k.here k.after k.found (all_hold a))
  rejected (Outline t) k = λ a. k.refuses.1 (middle (Holds E B) (points E B) k.before k.here k.after k.found (all_hold a))
  rejected (Unbalanced t d) k = λ a. no_difference E B _ _ (subst (Holds E B) k.refuses.0 (middle (Holds E B) (points E B) k.before k.here k.after k.found (all_hold a))) _ _ k.refuses.1
  rejected (Ring f) k = λ a. k.refuses.1 (middle (Kept E B) (points E B) k.before k.here k.after k.found a)
  rejected Memory k = tt

  pub decided : {A : Type 0} (r : Result A (BookFault S)) → Judged E B v r (points E B) → MatchResult r (λ _. Accepted E B × WorkedOnThePlane E B) (Rejects E B v)
  decided (Ok x) j = accepted j.is
  decided (Err f) j = rejected f j.is

  -- ---- a fault of one kind of point, where the kinds before it are passed
  module _ (f : BookFault S) where
    pub before_all : FirstFault E B v (the_factor ∷ []) f → FirstFault E B v (points E B) f
    unfolding points
    before_all r = sooner (the_factor ∷ []) (length_points E B ++ (subdivision_points E B ++ (outline_points E B ++ children_points E B))) f r

    pub after_factor : AllByRecursion (Passed E B) (the_factor ∷ []) → FirstFault E B v (length_points E B) f → FirstFault E B v (points E B) f
    unfolding points
    after_factor a r = later (the_factor ∷ []) _ f a (sooner (length_points E B) (subdivision_points E B ++ (outline_points E B ++ children_points E B)) f r)

    pub after_lengths : AllByRecursion (Passed E B) (the_factor ∷ []) → AllByRecursion (Passed E B) (length_points E B) → FirstFault E B v (subdivision_points E B) f → FirstFault E B v (points E B) f
    unfolding points
    after_lengths a b r = later (the_factor ∷ []) _ f a (later (length_points E B) _ f b (sooner (subdivision_points E B) (outline_points E B ++ children_points E B) f r))

    pub after_subdivisions : AllByRecursion (Passed E B) (the_factor ∷ []) → AllByRecursion (Passed E B) (length_points E B) → AllByRecursion (Passed E B) (subdivision_points E B) → FirstFault E B v (outline_points E B) f → FirstFault E B v (points E B) f
    unfolding points
    after_subdivisions a b c r = later (the_factor ∷ []) _ f a (later (length_points E B) _ f b (later (subdivision_points E B) _ f c (sooner (outline_points E B) (children_points E B) f r)))

  pub after_outlines : {A : Type 0} (r : Result A (BookFault S)) → AllByRecursion (Passed E B) (the_factor ∷ []) → AllByRecursion (Passed E B) (length_points E B) → AllByRecursion (Passed E B) (subdivision_points E B) → AllByRecursion (Passed E B) (outline_points E B) →
      Judged E B v r (children_points E B) → Judged E B v r (points E B)
  unfolding points
  after_outlines r a b c d j = judged_later r (the_factor ∷ []) _ a (judged_later r (length_points E B) _ b (judged_later r (subdivision_points E B) _ c (judged_later r (outline_points E B) _ d j)))
