-- The calls that go about the nodes as relations: one accepted call, and several in a row.
use Rattle.std.proofs.Common.{◌≡◌, ℕ, ◌<◌, ◌≤◌, Bool, true, false, List, [], ◌∷◌, ◌++◌, length, Some, None, Option, Ok, Err, Result, ◌==◌, nat_lt, sym, refl, ap, ◌∙◌, subst, arith, length-append, append_assoc, append-nil, ltb-true, lt-ltb, eqb-true, eq-eqb}
use Rattle.exact.specs.Cyclotomic.{Cyclotomic}
use Rattle.exact.specs.JobNumbers.{JobNumbers}
use Rattle.chains.specs.Books.{Placement}
use Rattle.chains.specs.Addresses.{level}
use Rattle.nodes.specs.Table.{Entry, there, missing, outside, table}
use Rattle.calls.specs.Records.{Record}
use Rattle.calls.specs.Sheets.{Cursor, Sheet, Why, nothing_pending, wrong_level, no_room, no_node, off_plane, at_cursor, provided, descended, recorded, placed_from, descend, lay_by, set_aside}
use Rattle.calls.specs.Moves.{Move, descending, laying, setting_aside, moved, followed, replayed}

-- ---- what an accepted call says
same_reached : {S : Type 0} (s t : S) → ◌≡◌ {A = Result S Why} (Ok s) (Ok t) → s ≡ t
same_reached s t e = cc

same_some : {S : Type 0} (s t : S) → ◌≡◌ {A = Option S} (Some s) (Some t) → s ≡ t
same_some s t e = cc

refused : {S A : Type 0} (w : Why) (t : S) → ◌≡◌ {A = Result S Why} (Err w) (Ok t) → A
refused w t e = absurd cc

-- a test that was passed
passed : {S : Type 0} (b : Bool) (w : Why) (r : Result S Why) (t : S) → provided b w r ≡ Ok t → (b ≡ true) × (r ≡ Ok t)
passed true w r t e = (refl, e)
passed false w r t e = refused w t e

module _ (E : Cyclotomic) (N : JobNumbers) where
  -- an accepted call, where so many places may be used
  pub data Moved (places : ℕ) : Move → Sheet E → Sheet E → Type 0 where
    descends : (s : Sheet E) (c : Cursor) → s.cursor ≡ Some c → level c.node < N.depth → Moved places descending s (descended E N s c)
    lays : (s : Sheet E) (c : Cursor) (p : Placement E) → s.cursor ≡ Some c → level c.node ≡ N.depth → length s.records < places → table E N c.node ≡ there p →
        Moved places laying s (recorded E N s c (Some p))
    sets_aside : (s : Sheet E) (c : Cursor) → s.cursor ≡ Some c → length s.records < places → Moved places setting_aside s (recorded E N s c None)

  -- several accepted calls
  pub data Replayed (places : ℕ) : List Move → Sheet E → Sheet E → Type 0 where
    done : (s : Sheet E) → Replayed places [] s s
    on : (m : Move) (ms : List Move) (s t u : Sheet E) → Moved places m s t → Replayed places ms t u → Replayed places (m ∷ ms) s u

  -- ---- a call is accepted just where the relation holds
  descended_to : (places : ℕ) (s t : Sheet E) (o : Option Cursor) → s.cursor ≡ o →
      at_cursor o (λ c. provided (nat_lt (level c.node) N.depth) wrong_level (Ok (descended E N s c))) ≡ Ok t → Moved places descending s t
  descended_to places s t None p e = refused nothing_pending t e
  descended_to places s t (Some c) p e =
      let x = passed (nat_lt (level c.node) N.depth) wrong_level _ t e in
      subst (Moved places descending s) (same_reached _ t x.1) (descends s c p (ltb-true _ _ x.0))

  laid_from : (places : ℕ) (s t : Sheet E) (c : Cursor) (entry : Entry E) → s.cursor ≡ Some c → level c.node ≡ N.depth → length s.records < places → table E N c.node ≡ entry →
      placed_from E N entry s c ≡ Ok t → Moved places laying s t
  laid_from places s t c (there p) q at room f e = subst (Moved places laying s) (same_reached _ t e) (lays s c p q at room f)
  laid_from places s t c missing q at room f e = refused no_node t e
  laid_from places s t c outside q at room f e = refused off_plane t e

  laid_to : (places : ℕ) (s t : Sheet E) (o : Option Cursor) → s.cursor ≡ o →
      at_cursor o (λ c. provided (level c.node == N.depth) wrong_level (provided (nat_lt (length s.records) places) no_room (placed_from E N (table E N c.node) s c))) ≡ Ok t →
      Moved places laying s t
  laid_to places s t None p e = refused nothing_pending t e
  laid_to places s t (Some c) p e =
      let x = passed (level c.node == N.depth) wrong_level _ t e in
      let y = passed (nat_lt (length s.records) places) no_room _ t x.1 in
      laid_from places s t c (table E N c.node) p (eqb-true _ _ x.0) (ltb-true _ _ y.0) refl y.1

  set_aside_to : (places : ℕ) (s t : Sheet E) (o : Option Cursor) → s.cursor ≡ o →
      at_cursor o (λ c. provided (nat_lt (length s.records) places) no_room (Ok (recorded E N s c None))) ≡ Ok t → Moved places setting_aside s t
  set_aside_to places s t None p e = refused nothing_pending t e
  set_aside_to places s t (Some c) p e =
      let x = passed (nat_lt (length s.records) places) no_room _ t e in
      subst (Moved places setting_aside s) (same_reached _ t x.1) (sets_aside s c p (ltb-true _ _ x.0))

  pub is_moved : (places : ℕ) (m : Move) (s t : Sheet E) → moved E N places m s ≡ Ok t → Moved places m s t
  unfolding moved descend lay_by set_aside
  is_moved places descending s t e = descended_to places s t s.cursor refl e
  is_moved places laying s t e = laid_to places s t s.cursor refl e
  is_moved places setting_aside s t e = set_aside_to places s t s.cursor refl e

  pub moves : (places : ℕ) (m : Move) (s t : Sheet E) → Moved places m s t → moved E N places m s ≡ Ok t
  unfolding moved descend lay_by set_aside
  moves places _ _ _ (descends s c p below) =
      ap (λ o. at_cursor o (λ c. provided (nat_lt (level c.node) N.depth) wrong_level (Ok (descended E N s c)))) p
      ∙ ap (λ b. provided b wrong_level (Ok (descended E N s c))) (lt-ltb _ _ below)
  moves places _ _ _ (lays s c p q at room f) =
      ap (λ o. at_cursor o (λ c. provided (level c.node == N.depth) wrong_level (provided (nat_lt (length s.records) places) no_room (placed_from E N (table E N c.node) s c)))) q
      ∙ ap (λ b. provided b wrong_level (provided (nat_lt (length s.records) places) no_room (placed_from E N (table E N c.node) s c))) (eq-eqb _ _ at)
      ∙ ap (λ b. provided b no_room (placed_from E N (table E N c.node) s c)) (lt-ltb _ _ room)
      ∙ ap (λ entry. placed_from E N entry s c) f
  moves places _ _ _ (sets_aside s c p room) =
      ap (λ o. at_cursor o (λ c. provided (nat_lt (length s.records) places) no_room (Ok (recorded E N s c None)))) p
      ∙ ap (λ b. provided b no_room (Ok (recorded E N s c None))) (lt-ltb _ _ room)

  pub is_replayed : (places : ℕ) (ms : List Move) (s t : Sheet E) → replayed E N places ms s ≡ Some t → Replayed places ms s t
  unfolding replayed
  is_replayed places [] s t e = subst (Replayed places [] s) (same_some s t e) (done s)
  is_replayed places (m ∷ ms) s t e = go (moved E N places m s) refl (λ u. is_replayed places ms u t) e
    where
      go : (r : Result (Sheet E) Why) → moved E N places m s ≡ r → ((u : Sheet E) → replayed E N places ms u ≡ Some t → Replayed places ms u t) →
          followed E N r (replayed E N places ms) ≡ Some t → Replayed places (m ∷ ms) s t
      go (Err w) q ih e = absurd cc
      go (Ok u) q ih e = on m ms s u t (is_moved places m s u q) (ih u e)

  pub replays : (places : ℕ) (ms : List Move) (s t : Sheet E) → Replayed places ms s t → replayed E N places ms s ≡ Some t
  unfolding replayed
  replays places _ _ _ (done s) = refl
  replays places _ _ _ (on m ms s t u h r) = ap (λ o. followed E N o (replayed E N places ms)) (moves places m s t h) ∙ replays places ms t u r

  -- ---- the same calls on the same sheet lead to the same sheet
  pub moved_alike : (places : ℕ) (m : Move) (s t u : Sheet E) → Moved places m s t → Moved places m s u → t ≡ u
  moved_alike places m s t u h k = same_reached t u (sym (moves places m s t h) ∙ moves places m s u k)

  pub replayed_alike : (places : ℕ) (ms : List Move) (s t u : Sheet E) → Replayed places ms s t → Replayed places ms s u → t ≡ u
  replayed_alike places ms s t u r q = same_some t u (sym (replays places ms s t r) ∙ replays places ms s u q)

  -- ---- one call more, and calls in two parts
  pub then : (places : ℕ) (ms : List Move) (m : Move) (s t u : Sheet E) → Replayed places ms s t → Moved places m t u → Replayed places (ms ++ m ∷ []) s u
  then places _ m _ _ u (done s) h = on m [] s u u h (done u)
  then places _ m _ _ v (on k ms s t u g r) h = on k (ms ++ m ∷ []) s t v g (then places ms m t u v r h)

  pub further : (places : ℕ) (ms ns : List Move) (s t u : Sheet E) → Replayed places ms s t → Replayed places ns t u → Replayed places (ms ++ ns) s u
  further places _ ns _ _ u (done s) q = q
  further places _ ns _ _ v (on k ms s t u g r) q = on k (ms ++ ns) s t v g (further places ms ns t u v r q)

  pub parted : (places : ℕ) (ms ns : List Move) (s t : Sheet E) → Replayed places (ms ++ ns) s t → (u : Sheet E) × Replayed places ms s u × Replayed places ns u t
  parted places [] ns s t r = (s, done s, r)
  parted places (m ∷ ms) ns _ _ (on _ _ s u t h r) = let x = parted places ms ns u t r in (x.0, on m ms s u x.0 h x.1, x.2)

  -- ---- records are only added, behind those that are there
  one_more : (places : ℕ) (m : Move) (s t : Sheet E) → Moved places m s t → (rs : List (Record E)) × (t.records ≡ s.records ++ rs)
  one_more places _ _ _ (descends s c p below) = ([], sym (append-nil s.records))
  one_more places _ _ _ (lays s c p q at room f) = (_, refl)
  one_more places _ _ _ (sets_aside s c p room) = (_, refl)

  pub more : (places : ℕ) (ms : List Move) (s t : Sheet E) → Replayed places ms s t → (rs : List (Record E)) × (t.records ≡ s.records ++ rs)
  more places _ _ _ (done s) = ([], sym (append-nil s.records))
  more places _ _ _ (on m ms s t u h r) =
      let x = one_more places m s t h in
      let y = more places ms t u r in
      (x.0 ++ y.0, y.1 ∙ ap (λ z. z ++ y.0) x.1 ∙ append_assoc s.records x.0 y.0)

  pub grows_by_one : (places : ℕ) (m : Move) (s t : Sheet E) → Moved places m s t → length s.records ≤ length t.records
  grows_by_one places m s t h = let x = one_more places m s t h in omega (arith, ap length x.1 ∙ length-append s.records x.0)

  pub grows : (places : ℕ) (ms : List Move) (s t : Sheet E) → Replayed places ms s t → length s.records ≤ length t.records
  grows places ms s t r = let x = more places ms s t r in omega (arith, ap length x.1 ∙ length-append s.records x.0)

  -- ---- calls are accepted wherever there is room for the records that they lead to
  fits : (p q : ℕ) (m : Move) (s t : Sheet E) → Moved p m s t → length t.records ≤ q → Moved q m s t
  fits p q _ _ _ (descends s c e below) l = descends s c e below
  fits p q _ _ _ (lays s c x e at room f) l = lays s c x e at (omega (arith, length-append s.records (record { descents = c.descents; laid = Some x } ∷ []))) f
  fits p q _ _ _ (sets_aside s c e room) l = sets_aside s c e (omega (arith, length-append s.records (record { descents = c.descents; laid = None } ∷ [])))

  pub all_fit : (p q : ℕ) (ms : List Move) (s t : Sheet E) → Replayed p ms s t → length t.records ≤ q → Replayed q ms s t
  all_fit p q _ _ _ (done s) l = done s
  all_fit p q _ _ _ (on m ms s t u h r) l = on m ms s t u (fits p q m s t h (omega (arith, grows p ms t u r))) (all_fit p q ms t u r l)
