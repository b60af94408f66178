-- The first row that does not fit; and where all fit there is none.
use Rattle.std.proofs.Common.{◌≡◌, ℕ, zero, suc, ◌+◌, ◌<◌, List, [], ◌∷◌, ◌++◌, map, length, get_or, take, drop, IsErrAnd, Ok, Err, Result, MatchResult, sym, refl, ap, ◌∙◌, subst, arith}
use Rattle.std.specs.List.{AllByRecursion}
use Rattle.exact.specs.Cyclotomic.{Cyclotomic}
use Rattle.exact.specs.JobNumbers.{JobNumbers}
use Rattle.chains.proofs.Lists.{all_back}
use Rattle.calls.specs.Records.{Record}
use Rattle.calls.specs.Fits.{Fits, Unfit, FirstUnfit}
use Rattle.calls.specs.declared.fault.ListFault.{ListFault}
use Rattle.calls.specs.declared.fault.ListFault.TheVariants.{Short, BeyondLimits, Ring}

pub refused_with : {X F : Type 0} (r : Result X F) (f : F) (P : X → Type 0) (Q : F → Type 0) → IsErrAnd r (λ y. y ≡ f) → Q f → MatchResult r P Q
refused_with (Ok x) f P Q h q = absurd h
refused_with (Err y) f P Q h q = subst Q (sym h) q

split_at : {A B : Type 0} (f : A → B) (xs : List A) (i : ℕ) (d : A) → i < length xs → map f xs ≡ map f (take i xs) ++ (f (get_or xs i d) ∷ map f (drop (suc i) xs))
split_at f [] i d h = absurd (omega arith)
split_at f (x ∷ xs) zero d h = refl
split_at f (x ∷ xs) (suc i) d h = ap (◌∷◌ (f x)) (split_at f xs i d (omega arith))

pub first_unfit : {A : Type 0} (E : Cyclotomic) (N : JobNumbers) (view : A → Record E) (rows : List A) (i : ℕ) (d : A) (f : ListFault) → i < length rows →
    AllByRecursion (Fits E N) (map view (take i rows)) → Unfit E N (view (get_or rows i d)) f → FirstUnfit E N (map view rows) f
first_unfit E N view rows i d f h fit unfit = record { before = map view (take i rows); first = view (get_or rows i d); after = map view (drop (suc i) rows); whole = split_at view rows i d h; fit = fit; unfit = unfit }

module _ (E : Cyclotomic) (N : JobNumbers) where
  -- a record that fits has no fault
  no_fault : (r : Record E) (f : ListFault) → Fits E N r → Unfit E N r f → ⊥
  no_fault r (Short f) h u = u
  no_fault r BeyondLimits h u = u h.0
  no_fault r (Ring f) h u = u.1 h.1

  pub no_first : (rs : List (Record E)) (f : ListFault) → AllByRecursion (Fits E N) rs → FirstUnfit E N rs f → ⊥
  no_first rs f h u = no_fault u.first f (all_back (Fits E N) u.before (u.first ∷ u.after) (subst (AllByRecursion (Fits E N)) u.whole h)).0 u.unfit
