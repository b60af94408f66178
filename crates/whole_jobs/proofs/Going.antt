-- What holds so far, while steps are taken.
use Rattle.std.proofs.Common.{◌≡◌, ℕ, List, [], length, Ok, Err, Result, IsErrAnd, subst, sym, refl, ◌∙◌}
use Rattle.exact.specs.Cyclotomic.{Cyclotomic}
use Rattle.exact.specs.JobNumbers.{JobNumbers}
use Rattle.calls.specs.Limits.{usable}
use Rattle.calls.specs.Sheets.{Sheet, AtNode}
use Rattle.calls.specs.declared.row.Row.{Row}
use Rattle.sheet.specs.declared.fault.SheetFault.{SheetFault}
use Rattle.whole_jobs.specs.Whole.{Grown, LaidSome, Stuck, LaysOn, LedOn}
use Rattle.whole_jobs.proofs.Listing.{none_written, more_written}
use Rattle.whole_jobs.proofs.Joining.{none_laid, some_joined}
use Rattle.whole_jobs.proofs.Leading.{led_none, led_joined}

-- between a sheet and a later one, with their placers' plans and soundness, counts and lists
pub record SoFar {C : Type 0} (E : Cyclotomic) (N M : JobNumbers) (Sound Sound' : Type 0) (n m : ℕ) (xs ys : List (Row C)) (s t : Sheet E) : Type 0 where
  pub kept : M ≡ N
  pub sound : Sound → Sound'
  pub node : AtNode N s.cursor → AtNode N t.cursor
  pub listed : Grown n m xs ys
  pub lays : Sound → AtNode N s.cursor → LaidSome E N s t
  pub led : Sound → LedOn E N (usable (length xs)) s t

pub at_first : {C : Type 0} (E : Cyclotomic) (N : JobNumbers) (Sound : Type 0) (n : ℕ) (xs : List (Row C)) (s : Sheet E) → SoFar E N N Sound Sound n n xs xs s s
at_first E N Sound n xs s = record { kept = refl; sound = λ x. x; node = λ a. a; listed = none_written n xs; lays = λ _ _. ([], none_laid E N s s refl refl); led = λ _. led_none E N (usable (length xs)) s s refl }

module _ {C : Type 0} (E : Cyclotomic) (N M K : JobNumbers) (Sound Sound' Sound'' : Type 0) (n m k : ℕ) (xs ys zs : List (Row C)) (s t u : Sheet E) where
  pub further : SoFar E N M Sound Sound' n m xs ys s t → SoFar E M K Sound' Sound'' m k ys zs t u → SoFar E N K Sound Sound'' n k xs zs s u
  further g h = record {
    kept = h.kept ∙ g.kept;
    sound = λ x. h.sound (g.sound x);
    node = λ a. subst (λ L. AtNode L u.cursor) g.kept (h.node (subst (λ L. AtNode L t.cursor) (sym g.kept) (g.node a)));
    listed = more_written n m k xs ys zs g.listed h.listed;
    lays = λ x a. some_joined E N s t u (g.lays x a) (subst (λ L. LaidSome E L t u) g.kept (h.lays (g.sound x) (subst (λ L. AtNode L t.cursor) (sym g.kept) (g.node a))));
    led = λ x. led_joined E N (usable (length xs)) s t u (g.led x) (subst (λ L. LedOn E L (usable (length xs)) t u) g.kept (subst (λ n. LedOn E M (usable n) t u) g.listed.as_long (h.led (g.sound x))));
  }

module _ {S C : Type 0} (E : Cyclotomic) (N M : JobNumbers) (Sound Sound' : Type 0) (n m : ℕ) (xs ys : List (Row C)) (s t u : Sheet E) where
  -- a node that cannot be laid ends the laying
  pub ends : (r : Result (Unit {0}) (SheetFault S)) (f : SheetFault S) → IsErrAnd r (λ y. y ≡ f) → SoFar E N M Sound Sound' n m xs ys s t →
      (Sound' → AtNode M t.cursor → LaidSome E M t u × Stuck E M (usable (length ys)) u f) → Sound → AtNode N s.cursor → LaysOn E N (usable (length xs)) r s u
  ends (Ok a) f h g last x a' = absurd h
  ends (Err y) f h g last x a =
      let z = last (g.sound x) (subst (λ L. AtNode L t.cursor) (sym g.kept) (g.node a)) in
      let stuck = subst (λ l. Stuck E N (usable l) u f) g.listed.as_long (subst (λ L. Stuck E L (usable (length ys)) u f) g.kept z.1) in
      (some_joined E N s t u (g.lays x a) (subst (λ L. LaidSome E L t u) g.kept z.0), subst (Stuck E N (usable (length xs)) u) (sym h) stuck)
