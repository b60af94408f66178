-- What the calls do, case by case, and what they answer then.
use Rattle.std.proofs.Common.{◌≡◌, ℕ, ◌<◌, ◌≤◌, Bool, true, false, cond, nat_lt, nat_eq, List, length, Some, None, Option, is_some, Ok, Err, Result, IsErrAnd, sym, refl, ap, ◌∙◌, subst, le-ltb, lt-ltb, arith}
use Rattle.std.proofs.lemmas.Bool.{eq-eqb, ne_eqb}
use Rattle.exact.specs.Cyclotomic.{Cyclotomic}
use Rattle.exact.specs.JobNumbers.{JobNumbers}
use Rattle.chains.specs.Books.{Placement}
use Rattle.chains.specs.Addresses.{level}
use Rattle.nodes.specs.Table.{Entry, there, missing, outside, table}
use Rattle.calls.specs.Sheets.{Cursor, Sheet, Why, nothing_pending, wrong_level, no_room, no_node, off_plane, at_cursor, provided, placed_from, descended, recorded, descend, lay_by, set_aside}
use Rattle.rings.specs.declared.fault.RingFault.TheVariants.{OffPlane}
use Rattle.nodes.specs.Views.{fault_entry}
use Rattle.nodes.specs.declared.fault.PlaceFault.{PlaceFault}
use Rattle.nodes.specs.declared.fault.PlaceFault.TheVariants.{NoNode, Ring}
use Rattle.sheet.specs.declared.fault.SheetFault.{SheetFault}
use Rattle.sheet.specs.declared.fault.SheetFault.TheVariants.{Place}
use Rattle.sheet.specs.Answers.{fault, Does, entry_at}

pub is_there : {A : Type 0} (o : Option A) → is_some o ≡ true → (x : A) × (o ≡ Some x)
is_there None e = cc
is_there (Some x) e = (x, refl)

-- ---- from what a call should do to what it does
module _ {A : Type 0} (E : Cyclotomic) (r : Result (Sheet E) Why) (Good : A → Type 0) where
  pub refuses : {S : Type 0} (w : Why) (old new : Sheet E) (f : SheetFault S) → r ≡ Err w → f ≡ fault w → new ≡ old → Does E r Good (Err f) old new
  refuses w old new f e g h = subst (λ q. Does E q Good (Err f) old new) (sym e) (g, h)

  -- by `?`
  pub passes_on : {S : Type 0} (w : Why) (s : Sheet E) (result : Result A (SheetFault S)) (f : SheetFault S) → r ≡ Err w → IsErrAnd result (λ y. y ≡ f) → f ≡ fault w → Does E r Good result s s
  passes_on w s (Ok a) f e h g = absurd h
  passes_on w s (Err y) f e h g = refuses w s s y e (h ∙ g) refl

  pub does : (S : Type 0) (t old new : Sheet E) (a : A) → r ≡ Ok t → new ≡ t → Good a → Does {S = S} E r Good (Ok a) old new
  does S t old new a e h g = subst (λ q. Does {S = S} E q Good (Ok a) old new) (sym e) (h, g)

-- ---- what the calls should do
module _ (E : Cyclotomic) (N : JobNumbers) (s : Sheet E) where
  pub descend_nowhere : s.cursor ≡ None → descend E N s ≡ Err nothing_pending
  unfolding descend
  descend_nowhere e = ap (λ o. at_cursor o (λ c. provided (nat_lt (level c.node) N.depth) wrong_level (Ok (descended E N s c)))) e

  module _ (c : Cursor) (e : s.cursor ≡ Some c) where
    descend_there : descend E N s ≡ provided (nat_lt (level c.node) N.depth) wrong_level (Ok (descended E N s c))
    unfolding descend
    descend_there = ap (λ o. at_cursor o (λ c. provided (nat_lt (level c.node) N.depth) wrong_level (Ok (descended E N s c)))) e

    pub descend_deep : N.depth ≤ level c.node → descend E N s ≡ Err wrong_level
    descend_deep h = descend_there ∙ ap (λ b. provided b wrong_level (Ok (descended E N s c))) (le-ltb _ _ h)

    pub descend_on : level c.node < N.depth → descend E N s ≡ Ok (descended E N s c)
    descend_on h = descend_there ∙ ap (λ b. provided b wrong_level (Ok (descended E N s c))) (lt-ltb _ _ h)

  module _ (places : ℕ) (x : Entry E) where
    abbrev lays : Result (Sheet E) Why
    lays = lay_by E N places (λ a. x) s

    pub lay_nowhere : s.cursor ≡ None → lays ≡ Err nothing_pending
    unfolding lay_by
    lay_nowhere e = ap (λ o. at_cursor o (λ c. provided (nat_eq (level c.node) N.depth) wrong_level (provided (nat_lt (length s.records) places) no_room (placed_from E N x s c)))) e

    module _ (c : Cursor) (e : s.cursor ≡ Some c) where
      lay_there : lays ≡ provided (nat_eq (level c.node) N.depth) wrong_level (provided (nat_lt (length s.records) places) no_room (placed_from E N x s c))
      unfolding lay_by
      lay_there = ap (λ o. at_cursor o (λ c. provided (nat_eq (level c.node) N.depth) wrong_level (provided (nat_lt (length s.records) places) no_room (placed_from E N x s c)))) e

      pub lay_high : (level c.node ≡ N.depth → ⊥) → lays ≡ Err wrong_level
      lay_high h = lay_there ∙ ap (λ b. provided b wrong_level (provided (nat_lt (length s.records) places) no_room (placed_from E N x s c))) (ne_eqb _ _ h)

      module _ (d : level c.node ≡ N.depth) where
        lay_deep : lays ≡ provided (nat_lt (length s.records) places) no_room (placed_from E N x s c)
        lay_deep = lay_there ∙ ap (λ b. provided b wrong_level (provided (nat_lt (length s.records) places) no_room (placed_from E N x s c))) (eq-eqb _ _ d)

        pub lay_full : places ≤ length s.records → lays ≡ Err no_room
        lay_full h = lay_deep ∙ ap (λ b. provided b no_room (placed_from E N x s c)) (le-ltb _ _ h)

        pub lay_on : length s.records < places → lays ≡ placed_from E N x s c
        lay_on h = lay_deep ∙ ap (λ b. provided b no_room (placed_from E N x s c)) (lt-ltb _ _ h)

  module _ (places : ℕ) where
    pub aside_nowhere : s.cursor ≡ None → set_aside E N places s ≡ Err nothing_pending
    unfolding set_aside
    aside_nowhere e = ap (λ o. at_cursor o (λ c. provided (nat_lt (length s.records) places) no_room (Ok (recorded E N s c None)))) e

    module _ (c : Cursor) (e : s.cursor ≡ Some c) where
      aside_there : set_aside E N places s ≡ provided (nat_lt (length s.records) places) no_room (Ok (recorded E N s c None))
      unfolding set_aside
      aside_there = ap (λ o. at_cursor o (λ c. provided (nat_lt (length s.records) places) no_room (Ok (recorded E N s c None)))) e

      pub aside_full : places ≤ length s.records → set_aside E N places s ≡ Err no_room
      aside_full h = aside_there ∙ ap (λ b. provided b no_room (Ok (recorded E N s c None))) (le-ltb _ _ h)

      pub aside_on : length s.records < places → set_aside E N places s ≡ Ok (recorded E N s c None)
      aside_on h = aside_there ∙ ap (λ b. provided b no_room (Ok (recorded E N s c None))) (lt-ltb _ _ h)

-- the table's entry at a cursor, and any where there is none
unfoldable pub tabled : (E : Cyclotomic) → JobNumbers → Option Cursor → Entry E
tabled E N None = missing
tabled E N (Some c) = table E N c.node

pub tabled_is : {S : Type 0} (E : Cyclotomic) (v : S → E.Elem) (N : JobNumbers) (o : Option Cursor) → entry_at E v N o (tabled E N o)
unfolding tabled
tabled_is E v N None = tt
tabled_is E v N (Some c) = refl

-- ---- what a placer's fault says
unfoldable pub why : PlaceFault → Why
why NoNode = no_node
why (Ring f) = off_plane

pub why_faults : {S : Type 0} (f : PlaceFault) → ◌≡◌ {A = SheetFault S} (Place f) (fault (why f))
unfolding why
why_faults NoNode = refl
why_faults (Ring OffPlane) = refl

pub why_refuses : (E : Cyclotomic) (N : JobNumbers) (s : Sheet E) (c : Cursor) (f : PlaceFault) → placed_from E N (fault_entry E f) s c ≡ Err (why f)
unfolding why
why_refuses E N s c NoNode = refl
why_refuses E N s c (Ring f) = refl
