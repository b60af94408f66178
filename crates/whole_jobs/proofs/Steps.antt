-- One step on a sheet.
use Rattle.std.proofs.Common.{◌≡◌, ℕ, ◌+◌, ◌<◌, ◌≤◌, inl, inr, Bool, true, false, cond, eqb, ltb, [], ◌∷◌, length, Some, Ok, Err, Result, IsErrAnd, IfOk, sym, refl, ap, ◌∙◌, subst, arith, length-append, eqb-true, ltb-true, ltb-false, leb-true}
use Rattle.std.proofs.lemmas.Bool.{and_parts, eqb-false}
use Rattle.exact.specs.Cyclotomic.{Cyclotomic}
use Rattle.exact.specs.JobNumbers.{JobNumbers}
use Rattle.chains.specs.Books.{Placement}
use Rattle.chains.specs.Addresses.{Address, level, child_count, node_tile, has_node, node_placement}
use Rattle.jobs.specs.Limits.{most_depth}
use Rattle.nodes.specs.Table.{Entry, there, missing, outside, node_on_plane, table}
use Rattle.calls.specs.Sheets.{Cursor, Sheet, Why, descended, recorded, placed_from, descend, lay_by}
use Rattle.sheet.specs.Answers.{Does}
use Rattle.sheet.specs.declared.fault.SheetFault.{SheetFault}
use Rattle.sheet.proofs.Refusing.{descend_on, lay_high, lay_full, lay_on}
use Rattle.whole_jobs.specs.Whole.{left, Laid, LaidSome, CannotBeLaid, Stuck, StepsOn, level_at, steps_left}
use Rattle.whole_jobs.proofs.Lefts.{left_down}
use Rattle.whole_jobs.proofs.Joining.{none_laid, one_laid}

-- ---- nodes
pub within_depth : (N : JobNumbers) (a : Address) → has_node N a ≡ true → level a ≤ N.depth
unfolding has_node
within_depth N a h = leb-true _ _ (and_parts _ _ (and_parts _ _ h).0).0

node_in_table : (E : Cyclotomic) (N : JobNumbers) (a : Address) → has_node N a ≡ true → table E N a ≡ missing → ⊥
unfolding table
node_in_table E N a h e = go (node_on_plane E N a) (sym (ap (λ b. cond b (cond (node_on_plane E N a) (there (node_placement E N a)) outside) missing) h) ∙ e)
  where
    go : (b : Bool) → cond b (there (node_placement E N a)) outside ≡ missing → ⊥
    go true k = cc
    go false k = cc

-- ---- a refused call leaves the sheet as it was
pub refused_same : {A S : Type 0} (E : Cyclotomic) (q : Result (Sheet E) Why) (Good : A → Type 0) (f : SheetFault S) (s t : Sheet E) → Does E q Good (Err f) s t → t ≡ s
refused_same E (Ok u) Good f s t d = absurd d
refused_same E (Err w) Good f s t d = d.1

-- a piece that was recorded, as an entry of the table says where it lies
pub record OneLaid (E : Cyclotomic) (N : JobNumbers) (places : ℕ) (x : Entry E) (s : Sheet E) (c : Cursor) (t : Sheet E) : Type 0 where
  pub room : length s.records < places
  pub deep : level c.node ≡ N.depth
  pub piece : Placement E
  pub entry : x ≡ there piece
  pub after : t ≡ recorded E N s c (Some piece)

pub laid_one : (E : Cyclotomic) (N : JobNumbers) (places : ℕ) (x : Entry E) (s : Sheet E) (c : Cursor) (t : Sheet E) → s.cursor ≡ Some c → x ≡ table E N c.node → OneLaid E N places x s c t → LaidSome E N s t
laid_one E N places x s c t at tabled o = (c.node ∷ [], subst (Laid E N (c.node ∷ []) s) (sym o.after) (one_laid E N s c o.piece at o.deep (sym tabled ∙ o.entry)))

module _ (E : Cyclotomic) (N : JobNumbers) (s : Sheet E) (c : Cursor) (at : s.cursor ≡ Some c) where
  -- ---- down
  module _ {S : Type 0} (high : level c.node < N.depth) (t : Sheet E) where
    pub steps_down : (places : ℕ) (r : Result (Unit {0}) (SheetFault S)) → 0 < child_count N (node_tile N c.node) → Does E (descend E N s) (λ _. Unit {0}) r s t → StepsOn E N places r s t
    steps_down places (Ok a) child d =
        let e : t ≡ descended E N s c = (subst (λ q. Does {S = S} E q (λ _. Unit {0}) (Ok a) s t) (descend_on E N s c at high) d).0 in
        ([], none_laid E N s t (ap (λ x. x.records) e) (ap (left N) at ∙ left_down N c.node high child ∙ ap (λ x. left N x.cursor) (sym e)))
    steps_down places (Err f) child d = absurd (subst (λ q. Does {A = Unit {0}} E q (λ _. Unit {0}) (Err f) s t) (descend_on E N s c at high) d)

    pub down_nearer : (n : ℕ) (r : Result (Unit {0}) (SheetFault S)) → N.depth ≤ most_depth → Does E (descend E N s) (λ _. Unit {0}) r s t → IfOk r (λ _. steps_left n t.cursor < steps_left n s.cursor)
    down_nearer n (Ok a) low d =
        let e : t ≡ descended E N s c = (subst (λ q. Does {S = S} E q (λ _. Unit {0}) (Ok a) s t) (descend_on E N s c at high) d).0 in
        let here : level_at s.cursor ≡ level c.node = ap level_at at in
        let there : level_at t.cursor ≡ level c.node + 1 = ap (λ x. level_at x.cursor) e ∙ length-append c.node.path (0 ∷ []) in
        omega arith
    down_nearer n (Err f) low d = tt

  -- ---- laid
  module _ {A : Type 0} (S : Type 0) (places : ℕ) (x : Entry E) (Good : A → Type 0) (t : Sheet E) where
    abbrev DoesLay : Result (Sheet E) Why → Result A (SheetFault S) → Type 0
    DoesLay q r = Does {A = A} {S = S} E q Good r s t

    abbrev by_table : Result (Sheet E) Why
    by_table = lay_by E N places (λ a. x) s

    pub laid_there : (a : A) → DoesLay by_table (Ok a) → OneLaid E N places x s c t
    laid_there a d = by_level (eqb (level c.node) N.depth) refl
      where
        by_entry : length s.records < places → level c.node ≡ N.depth → (y : Entry E) → x ≡ y → DoesLay (placed_from E N y s c) (Ok a) → OneLaid E N places x s c t
        by_entry room deep (there p) e k = record { room = room; deep = deep; piece = p; entry = e; after = k.0 }
        by_entry room deep missing e k = absurd k
        by_entry room deep outside e k = absurd k

        by_room : level c.node ≡ N.depth → (b : Bool) → ltb (length s.records) places ≡ b → OneLaid E N places x s c t
        by_room deep true e = let room = ltb-true _ _ e in by_entry room deep x refl (subst (λ q. DoesLay q (Ok a)) (lay_on E N s places x c at deep room) d)
        by_room deep false e = absurd (subst (λ q. DoesLay q (Ok a)) (lay_full E N s places x c at deep (ltb-false _ _ e)) d)

        by_level : (b : Bool) → eqb (level c.node) N.depth ≡ b → OneLaid E N places x s c t
        by_level true e = by_room (eqb-true _ _ e) (ltb (length s.records) places) refl
        by_level false e = absurd (subst (λ q. DoesLay q (Ok a)) (lay_high E N s places x c at (eqb-false _ _ e)) d)

    module _ (deep : level c.node ≡ N.depth) (here : has_node N c.node ≡ true) (tabled : x ≡ table E N c.node) where
      -- a refused one finds no free place, or the node off the plane
      pub is_stuck : (f : SheetFault S) → DoesLay by_table (Err f) → Stuck E N places s f
      is_stuck f d = (c, at, deep, by_room (ltb (length s.records) places) refl)
        where
          by_entry : length s.records < places → (y : Entry E) → x ≡ y → DoesLay (placed_from E N y s c) (Err f) → CannotBeLaid E N places (length s.records) c.node f
          by_entry room (there p) e k = absurd k
          by_entry room missing e k = absurd (node_in_table E N c.node here (sym tabled ∙ e))
          by_entry room outside e k = inr (k.0, room, sym tabled ∙ e)

          by_room : (b : Bool) → ltb (length s.records) places ≡ b → CannotBeLaid E N places (length s.records) c.node f
          by_room true e = let room = ltb-true _ _ e in by_entry room x refl (subst (λ q. DoesLay q (Err f)) (lay_on E N s places x c at deep room) d)
          by_room false e = let full = ltb-false _ _ e in inl ((subst (λ q. DoesLay q (Err f)) (lay_full E N s places x c at deep full) d).0, full)

-- ---- a step that cannot be taken
pub stops : {S : Type 0} (E : Cyclotomic) (N : JobNumbers) (places : ℕ) (r : Result (Unit {0}) (SheetFault S)) (f : SheetFault S) (s t : Sheet E) →
    IsErrAnd r (λ y. y ≡ f) → t ≡ s → Stuck E N places s f → StepsOn E N places r s t
stops E N places (Ok a) f s t h e k = absurd h
stops E N places (Err y) f s t h e k =
    (([], none_laid E N s t (ap (λ u. u.records) e) (ap (λ u. left N u.cursor) (sym e))), subst (λ u. Stuck E N places u y) (sym e) (subst (Stuck E N places s) (sym h) k))
