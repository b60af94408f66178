-- What every sheet keeps that accepted calls lead to: its records and its cursor tell those calls.
use Rattle.std.proofs.Common.{◌≡◌, ℕ, suc, ◌+◌, ◌<◌, ◌≤◌, Bool, true, false, cond, ltb, List, [], ◌∷◌, ◌++◌, length, replicate, Some, None, Option, sym, refl, ap, ◌∙◌, subst, arith, length-append, append_assoc, append-nil, flat_map}
use Rattle.std.specs.List.{AllByRecursion}
use Rattle.std.proofs.lemmas.Grind.{flat_map-append}
use Rattle.std.proofs.lemmas.List.{replicate-append-replicate}
use Rattle.exact.specs.Cyclotomic.{Cyclotomic}
use Rattle.exact.specs.JobNumbers.{JobNumbers}
use Rattle.chains.specs.Books.{Placement}
use Rattle.chains.specs.Addresses.{Address, level, child_address, child_count, child_tile, seed_tile, seed_on, next_child, next_path, next_node, advance}
use Rattle.chains.proofs.Lists.{all_append}
use Rattle.jobs.specs.Limits.{most_depth}
use Rattle.calls.specs.Records.{Record}
use Rattle.calls.specs.Sheets.{Cursor, Sheet, come_to, descended, recorded, start}
use Rattle.calls.specs.Moves.{Move, descending, laying, setting_aside}
use Rattle.calls.proofs.Moving.{Moved, descends, lays, sets_aside, Replayed, done, on, then}
use Rattle.files.specs.Files.{last_byte}

-- ---- the calls that a sheet tells
-- the call that closes a record
abbrev pub closing : {E : Cyclotomic} → Option (Placement E) → Move
closing None = setting_aside
closing (Some p) = laying

abbrev pub record_calls : {E : Cyclotomic} → Record E → List Move
record_calls r = replicate r.descents descending ++ closing r.laid ∷ []

-- the calls of the records, and then the cursor's descents
abbrev pub told : {E : Cyclotomic} → Sheet E → List Move
told s = flat_map record_calls s.records ++ replicate (last_byte s.cursor) descending

pub flat_map_snoc : {A B : Type 0} (f : A → List B) (xs : List A) (x : A) → flat_map f (xs ++ x ∷ []) ≡ flat_map f xs ++ f x
flat_map_snoc f xs x = flat_map-append f xs (x ∷ []) ∙ ap (◌++◌ (flat_map f xs)) (append-nil (f x))

-- ---- what a cursor keeps: no more descents than its node has levels, and no node below the depth
abbrev pub Within : Option Cursor → Type 0
Within None = Unit {0}
Within (Some c) = c.descents ≤ level c.node

abbrev pub Shallow : ℕ → Option Cursor → Type 0
Shallow depth None = Unit {0}
Shallow depth (Some c) = level c.node ≤ depth

arrived : (o : Option Address) → Within (come_to o)
arrived None = tt
arrived (Some a) = omega arith

-- a cursor that comes to a node comes with no descent
pub fresh : (o : Option Address) → last_byte (come_to o) ≡ 0
fresh None = refl
fresh (Some a) = refl

-- ---- the cursor never advances to a lower level
-- a path of at most so many child numbers, if there is one
abbrev NoLonger : ℕ → Option (List ℕ) → Type 0
NoLonger n None = Unit {0}
NoLonger n (Some path) = length path ≤ n

module _ (N : JobNumbers) where
  next_no_longer : (t : ℕ) (path : List ℕ) → NoLonger (length path) (next_path N t path)
  unfolding next_path next_child
  next_no_longer t [] = tt
  next_no_longer t (i ∷ path) = go (next_path N (child_tile N t i) path) (next_no_longer (child_tile N t i) path)
    where
      over : (b : Bool) → NoLonger (suc (length path)) (cond b (Some ((i + 1) ∷ [])) None)
      over true = omega arith
      over false = tt

      go : (o : Option (List ℕ)) → NoLonger (length path) o → NoLonger (suc (length path)) (next_child N t i o)
      go None h = over (ltb (i + 1) (child_count N t))
      go (Some q) h = omega arith

  seed_shallow : (i : ℕ) → Shallow N.depth (come_to (seed_on N i))
  unfolding seed_on
  seed_shallow i = go (ltb i (length N.seeds))
    where
      go : (b : Bool) → Shallow N.depth (come_to (cond b (Some (record { seed = i; path = [] })) None))
      go true = omega arith
      go false = tt

  advance_shallow : (a : Address) → level a ≤ N.depth → Shallow N.depth (come_to (advance N a))
  unfolding advance next_node
  advance_shallow a h = go (next_path N (seed_tile N a.seed) a.path) (next_no_longer (seed_tile N a.seed) a.path)
    where
      go : (o : Option (List ℕ)) → NoLonger (length a.path) o → Shallow N.depth (come_to (next_node N a.seed o))
      go None l = seed_shallow (a.seed + 1)
      go (Some q) l = omega arith

-- ---- what a sheet keeps
-- each record's descents leave the byte's marks alone
abbrev pub Small : {E : Cyclotomic} → List (Record E) → Type 0
Small {E} rs = AllByRecursion (λ (r : Record E). r.descents < 16) rs

module _ (E : Cyclotomic) (N : JobNumbers) where
  -- ---- a call more, told
  pub told_descended : (s : Sheet E) (c : Cursor) → s.cursor ≡ Some c → told (descended E N s c) ≡ told s ++ descending ∷ []
  told_descended s c e =
      ap (◌++◌ (flat_map record_calls s.records)) (sym (replicate-append-replicate c.descents 1 descending))
      ∙ sym (append_assoc (flat_map record_calls s.records) _ _)
      ∙ ap (λ o. (flat_map record_calls s.records ++ replicate (last_byte o) descending) ++ descending ∷ []) (sym e)

  pub told_recorded : (s : Sheet E) (c : Cursor) (laid : Option (Placement E)) → s.cursor ≡ Some c → told (recorded E N s c laid) ≡ told s ++ closing laid ∷ []
  told_recorded s c laid e =
      ap (λ n. flat_map record_calls (s.records ++ record { descents = c.descents; laid = laid } ∷ []) ++ replicate n descending) (fresh (advance N c.node))
      ∙ append-nil _
      ∙ flat_map_snoc record_calls s.records (record { descents = c.descents; laid = laid })
      ∙ sym (append_assoc (flat_map record_calls s.records) _ _)
      ∙ ap (λ o. (flat_map record_calls s.records ++ replicate (last_byte o) descending) ++ closing laid ∷ []) (sym e)

  -- ---- what accepted calls keep, where so many places may be used: the calls that a sheet tells lead to it from a new sheet
  pub record Kept (places : ℕ) (s : Sheet E) : Type 0 where
    pub way : Replayed E N places (told s) (start E N) s
    pub within : Within s.cursor
    pub shallow : Shallow N.depth s.cursor
    pub small : Small s.records
    pub fits : length s.records ≤ places

  -- a new sheet keeps it, a call keeps it, and so do several
  pub kept_start : (places : ℕ) → Kept places (start E N)
  unfolding start
  kept_start places = record {
    way = subst (λ ms. Replayed E N places ms (start E N) (start E N)) (ap (λ n. replicate n descending) (sym (fresh (seed_on N 0)))) (done (start E N));
    within = arrived (seed_on N 0);
    shallow = seed_shallow N 0;
    small = tt;
    fits = omega arith;
  }

  module _ (low : N.depth ≤ most_depth) where
    kept_recorded : (places : ℕ) (s : Sheet E) (c : Cursor) (laid : Option (Placement E)) → s.cursor ≡ Some c → length s.records < places →
        Moved E N places (closing laid) s (recorded E N s c laid) → Kept places s → Kept places (recorded E N s c laid)
    kept_recorded places s c laid e room h k =
        let w : c.descents ≤ level c.node = subst Within e k.within in
        let d : level c.node ≤ N.depth = subst (Shallow N.depth) e k.shallow in
        record {
          way = subst (λ ms. Replayed E N places ms (start E N) (recorded E N s c laid)) (sym (told_recorded s c laid e)) (then E N places (told s) (closing laid) (start E N) s _ k.way h);
          within = arrived (advance N c.node);
          shallow = advance_shallow N c.node d;
          small = all_append _ s.records _ k.small (omega arith, tt);
          fits = omega (arith, length-append s.records (record { descents = c.descents; laid = laid } ∷ []));
        }

    pub kept_move : (places : ℕ) (m : Move) (s t : Sheet E) → Moved E N places m s t → Kept places s → Kept places t
    kept_move places _ _ _ (descends s c e below) k =
        let w : c.descents ≤ level c.node = subst Within e k.within in
        let l : level (child_address c.node 0) ≡ level c.node + 1 = length-append c.node.path (0 ∷ []) in
        record {
          way = subst (λ ms. Replayed E N places ms (start E N) (descended E N s c)) (sym (told_descended s c e)) (then E N places (told s) descending (start E N) s _ k.way (descends s c e below));
          within = omega arith;
          shallow = omega arith;
          small = k.small;
          fits = k.fits;
        }
    kept_move places _ _ _ (lays s c p e at room f) k = kept_recorded places s c (Some p) e room (lays s c p e at room f) k
    kept_move places _ _ _ (sets_aside s c e room) k = kept_recorded places s c None e room (sets_aside s c e room) k

    pub kept_replay : (places : ℕ) (ms : List Move) (s t : Sheet E) → Replayed E N places ms s t → Kept places s → Kept places t
    kept_replay places _ _ _ (done s) k = k
    kept_replay places _ _ _ (on m ms s t u h r) k = kept_replay places ms t u r (kept_move places m s t h k)
