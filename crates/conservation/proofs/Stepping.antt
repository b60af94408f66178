-- A call on a sheet does what the run's call does: descend, lay and set aside.
use Rattle.std.proofs.Common.{◌≡◌, ℕ, ◌+◌, List, [], ◌∷◌, ◌++◌, length, nat_eq, nat_lt, Bool, true, false, Some, None, Option, Ok, Err, Result, MatchResult, sym, refl, ap, ◌∙◌, subst, arith, length-append}
use Rattle.exact.specs.Cyclotomic.{Cyclotomic}
use Rattle.exact.specs.JobNumbers.{JobNumbers}
use Rattle.job_rows.specs.declared.Placed.{Placed}
use Rattle.edges.specs.Views.{placement_view}
use Rattle.chains.specs.Books.{Placement}
use Rattle.chains.specs.Addresses.{Address, level}
use Rattle.nodes.specs.Table.{Entry, there, table}
use Rattle.calls.specs.Limits.{usable}
use Rattle.calls.specs.Sheets.{Cursor, Sheet, Why, wrong_level, no_room, at_cursor, provided, recorded, placed_from, lay_by, lay, descend, set_aside}
use Rattle.calls.specs.declared.row.Row.{Row}
use Rattle.calls.proofs.Moving.{Moved, descends, lays, sets_aside, is_moved}
use Rattle.calls.specs.Moves.{Move, descending, laying, setting_aside, moved}
use Rattle.runs.specs.Runs.{State, moving, noted, noted_if, done, called, settled}
use Rattle.runs.proofs.Noting as noting
use Rattle.sheet.specs.Answers as sheets
use Rattle.sheet.specs.Answers.{fault, WritesOne, entry_at, Lays}
use Rattle.sheet.specs.declared.fault.SheetFault.{SheetFault}
use Rattle.conservation.specs.declared.answer.Answer.{Answer}
use Rattle.conservation.specs.declared.answer.Answer.TheVariants.{Went, Laid, Refused}
use Rattle.conservation.specs.Answered.{told, Accepted, Answers, Does}

-- a sound placer's entry is the table's
pub by_table : {S : Type 0} (E : Cyclotomic) (v : S → E.Elem) (N : JobNumbers) (places : ℕ) (s : Sheet E) (x : Entry E) → entry_at E v N s.cursor x → lay_by E N places (λ a. x) s ≡ lay E N places s
unfolding lay_by
by_table E v N places s x h = go s.cursor h
  where
    on : (a : Address → Entry E) → Cursor → Result (Sheet E) Why
    on entry c = provided (nat_eq (level c.node) N.depth) wrong_level (provided (nat_lt (length s.records) places) no_room (placed_from E N (entry c.node) s c))

    go : (o : Option Cursor) → entry_at E v N o x → at_cursor o (on (λ a. x)) ≡ at_cursor o (on (table E N))
    go None h = refl
    go (Some c) h = ap (λ y. provided (nat_eq (level c.node) N.depth) wrong_level (provided (nat_lt (length s.records) places) no_room (placed_from E N y s c))) h

module _ {S : Type 0} (E : Cyclotomic) (v : S → E.Elem) (N : JobNumbers) (room : ℕ) where
  -- what an accepted move leaves and answers, or why it is refused
  abbrev OnMove : Move → Result (Sheet E) Why → Answer S → Sheet E → Sheet E → ℕ → ℕ → Type 0
  OnMove m (Ok t) a old new count count' = (new ≡ t) × (length t.records ≡ count') × ((s u : State E) → s.sheet ≡ old → u.sheet ≡ t → Accepted E v N (moving m) s u a)
  OnMove m (Err w) a old new count count' = (a ≡ Refused (fault w)) × (new ≡ old) × (count' ≡ count)

  move_does : (m : Move) (a : Answer S) (old new : Sheet E) (count count' : ℕ) (buffer : List ℕ) →
      (length old.records ≡ count → OnMove m (moved E N (usable room) m old) a old new count count') → Does E v N room (moving m) a old new count count' buffer buffer
  unfolding called done
  move_does m a old new count count' buffer h s e n fits = go (moved E N (usable room) m s.sheet) (subst (λ o. OnMove m (moved E N (usable room) m o) a o new count count') (sym e) (h (sym (ap (λ (z : Sheet E). length z.records) e) ∙ n)))
    where
      go : (q : Result (Sheet E) Why) → OnMove m q a s.sheet new count count' →
          ((settled E N s (noted_if E N m s q)).sheet ≡ new) × (length (settled E N s (noted_if E N m s q)).sheet.records ≡ count') × Answers E v N (moving m) s (noted_if E N m s q) a × (buffer ≡ buffer)
      go (Ok t) k =
          let u = noting.noted_sheet E N m s t in
          (u ∙ sym k.0, ap (λ (z : Sheet E). length z.records) u ∙ k.1, k.2 s (noted E N m s t) refl u, refl)
      go (Err w) k = (sym k.1, n ∙ sym k.2, k.0, refl)

  -- the records that an accepted move adds
  abbrev added : Move → ℕ
  added descending = 0
  added laying = 1
  added setting_aside = 1

  counts_on : (places : ℕ) (m : Move) (s t : Sheet E) → Moved E N places m s t → length t.records ≡ length s.records + added m
  counts_on places _ _ _ (descends s c e below) = sym (add_zero (length s.records))
    where
      add_zero : (n : ℕ) → n + 0 ≡ n
      add_zero n = omega arith
  counts_on places _ _ _ (lays s c p e at room f) = length-append s.records _
  counts_on places _ _ _ (sets_aside s c e room) = length-append s.records _

  more : (places : ℕ) (m : Move) (s t : Sheet E) (count : ℕ) → length s.records ≡ count → moved E N places m s ≡ Ok t → length t.records ≡ count + added m
  more places m s t count n e = counts_on places m s t (is_moved E N places m s t e) ∙ ap (λ k. k + added m) n

  -- ---- descend and set aside
  went : (m : Move) → ((s u : State E) → Accepted E v N (moving m) s u Went) → (r : Result (Unit {0}) (SheetFault S)) (old new : Sheet E) (count count' : ℕ) (buffer : List ℕ) →
      sheets.Does E (moved E N (usable room) m old) (λ _. Unit {0}) r old new → MatchResult r (λ _. count' ≡ count + added m) (λ _. count' ≡ count) →
      Does E v N room (moving m) (told r) old new count count' buffer buffer
  went m accepted r old new count count' buffer d k = move_does m (told r) old new count count' buffer (λ n. go (moved E N (usable room) m old) refl r d k n)
    where
      go : (q : Result (Sheet E) Why) → moved E N (usable room) m old ≡ q → (r : Result (Unit {0}) (SheetFault S)) → sheets.Does E q (λ _. Unit {0}) r old new →
          MatchResult r (λ _. count' ≡ count + added m) (λ _. count' ≡ count) → length old.records ≡ count → OnMove m q (told r) old new count count'
      go (Ok t) e (Ok a) d k n = (d.0, more (usable room) m old t count n e ∙ sym k, λ s u f g. accepted s u)
      go (Ok t) e (Err f) d k n = absurd d
      go (Err w) e (Ok a) d k n = absurd d
      go (Err w) e (Err f) d k n = (ap Refused d.0, d.1, k)

  pub descend_does : (r : Result (Unit {0}) (SheetFault S)) (old new : Sheet E) (count count' : ℕ) (buffer : List ℕ) →
      sheets.Does E (descend E N old) (λ _. Unit {0}) r old new → count' ≡ count → Does E v N room (moving descending) (told r) old new count count' buffer buffer
  unfolding moved
  descend_does r old new count count' buffer d k = went descending (λ s u. refl) r old new count count' buffer d (go r)
    where
      go : (r : Result (Unit {0}) (SheetFault S)) → MatchResult r (λ _. count' ≡ count + 0) (λ _. count' ≡ count)
      go (Ok a) = omega (arith, k)
      go (Err f) = k

  pub aside_does : {C : Type 0} (r : Result (Unit {0}) (SheetFault S)) (old new : Sheet E) (count count' : ℕ) (rows rows' : List (Row C)) (buffer : List ℕ) →
      sheets.Does E (set_aside E N (usable room) old) (λ _. Unit {0}) r old new → WritesOne r count count' rows rows' → Does E v N room (moving setting_aside) (told r) old new count count' buffer buffer
  unfolding moved
  aside_does r old new count count' rows rows' buffer d k = went setting_aside (λ s u. refl) r old new count count' buffer d (go r k)
    where
      go : (r : Result (Unit {0}) (SheetFault S)) → WritesOne r count count' rows rows' → MatchResult r (λ _. count' ≡ count + 1) (λ _. count' ≡ count)
      go (Ok a) k = k.0
      go (Err f) k = k.0

  -- ---- lay
  -- what is told of it
  abbrev told_lay : Result (Placed S) (SheetFault S) → Answer S
  told_lay (Ok p) = Laid p
  told_lay (Err f) = Refused f

  -- what an accepted lay records
  record_laid : (places : ℕ) (x : Entry E) (s t : Sheet E) (p : Placement E) → x ≡ there p → lay_by E N places (λ a. x) s ≡ Ok t →
      (d : ℕ) × (t.records ≡ s.records ++ (record { descents = d; laid = Some p } ∷ []))
  unfolding lay_by
  record_laid places x s t p e h = go s.cursor h
    where
      same : (c : Cursor) → ◌≡◌ {A = Result (Sheet E) Why} (Ok (recorded E N s c (Some p))) (Ok t) → recorded E N s c (Some p) ≡ t
      same c q = cc

      on_room : (c : Cursor) (b : Bool) → provided b no_room (placed_from E N x s c) ≡ Ok t → (d : ℕ) × (t.records ≡ s.records ++ (record { descents = d; laid = Some p } ∷ []))
      on_room c true q = (c.descents, sym (ap (λ (z : Sheet E). z.records) (same c (sym (ap (λ y. placed_from E N y s c) e) ∙ q))))
      on_room c false q = absurd cc

      on_level : (c : Cursor) (b : Bool) → provided b wrong_level (provided (nat_lt (length s.records) places) no_room (placed_from E N x s c)) ≡ Ok t → (d : ℕ) × (t.records ≡ s.records ++ (record { descents = d; laid = Some p } ∷ []))
      on_level c true q = on_room c (nat_lt (length s.records) places) q
      on_level c false q = absurd cc

      go : (o : Option Cursor) → at_cursor o (λ c. provided (nat_eq (level c.node) N.depth) wrong_level (provided (nat_lt (length s.records) places) no_room (placed_from E N x s c))) ≡ Ok t →
          (d : ℕ) × (t.records ≡ s.records ++ (record { descents = d; laid = Some p } ∷ []))
      go None q = absurd cc
      go (Some c) q = on_level c (nat_eq (level c.node) N.depth) q

  pub lay_does : {C : Type 0} (Sound : Type 0) → Sound → (r : Result (Placed S) (SheetFault S)) (old new : Sheet E) (count count' : ℕ) (rows rows' : List (Row C)) (buffer : List ℕ) →
      Lays E v N Sound (usable room) r old new → WritesOne r count count' rows rows' → Does E v N room (moving laying) (told_lay r) old new count count' buffer buffer
  unfolding moved
  lay_does Sound sound r old new count count' rows rows' buffer l k =
      let x = l.0 in
      let e = by_table E v N (usable room) old x (l.1 sound) in
      move_does laying (told_lay r) old new count count' buffer (λ n. subst (λ q. OnMove laying q (told_lay r) old new count count') e (go (lay_by E N (usable room) (λ a. x) old) refl e r l.2 k n))
    where
      go : (q : Result (Sheet E) Why) → lay_by E N (usable room) (λ a. l.0) old ≡ q → lay_by E N (usable room) (λ a. l.0) old ≡ lay E N (usable room) old → (r : Result (Placed S) (SheetFault S)) →
          sheets.Does E q (sheets.Answers E v N l.0) r old new → WritesOne r count count' rows rows' → length old.records ≡ count → OnMove laying q (told_lay r) old new count count'
      go (Ok t) f e (Ok p) d k n =
          let x = record_laid (usable room) l.0 old t (placement_view E v p) d.1 f in
          (d.0, more (usable room) laying old t count n (sym e ∙ f) ∙ sym k.0, λ s u g h. (p, x.0, refl, ap (λ (z : Sheet E). z.records) h ∙ x.1 ∙ ap (λ (z : Sheet E). z.records ++ (record { descents = x.0; laid = Some (placement_view E v p) } ∷ [])) (sym g)))
      go (Ok t) f e (Err y) d k n = absurd d
      go (Err w) f e (Ok p) d k n = absurd d
      go (Err w) f e (Err y) d k n = (ap Refused d.0, d.1, k.0)
