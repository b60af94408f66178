-- From a job that is laid whole to its printed list.
use Rattle.std.proofs.Common.{◌≡◌, ℕ, ◌<◌, ◌≤◌, List, [], ◌∷◌, ◌++◌, length, map, take, drop, append_assoc, ℤ, Some, Option, Ok, Err, Result, MatchResult, IsErrAnd, refl, sym, ap, ◌∙◌, subst, inl, inr, arith}
use Rattle.std.specs.List.{flat_map}
use Rattle.std.proofs.Math.Nat.{min-le_left}
use Rattle.std.proofs.lemmas.List.{take-take}
use Rattle.std.proofs.Math.Seq.{take-append_seam}
use Rattle.std.proofs.lemmas.List.Folds.{flat_map-map}
use Rattle.exact.specs.Cyclotomic.{Cyclotomic}
use Rattle.exact.specs.JobNumbers.{JobNumbers}
use Rattle.chains.specs.Books.{Placement}
use Rattle.chains.specs.Addresses.{Address, node_placement}
use Rattle.calls.specs.Limits.{usable, most_pieces}
use Rattle.calls.specs.Records.{Record, records}
use Rattle.calls.specs.Depths.{pieces}
use Rattle.calls.specs.declared.row.Row.{Row}
use Rattle.calls.specs.declared.fault.ListFault.TheVariants.{Short, BeyondLimits, Ring}
use Rattle.sheet.specs.declared.fault.SheetFault.{SheetFault}
use Rattle.sheet.specs.declared.fault.SheetFault.TheVariants.{NoRoom, WrongLevel, NothingPending, StillPending, Check, Place, List as Listed, File, Buffer}
use Rattle.calls.proofs.Firsts.{no_first}
use Rattle.whole_jobs.specs.Whole.{CannotBeLaid}
use Rattle.whole_jobs.specs.Job.{LaysWhole, LaysNotWhole}
use Rattle.cutting.specs.Lines.{laid_text, line, cutting_list}
use Rattle.cutting.specs.Printed.{Prints}
use Rattle.floors.specs.Floors.{piece_line, floor_list, most_bytes, AllLaid, NoList, NoFloor}
use Rattle.floors.specs.declared.fault.FloorFault.{FloorFault}
use Rattle.floors.specs.declared.fault.FloorFault.TheVariants.{Sheet}

module _ (E : Cyclotomic) (N : JobNumbers) where
  -- ---- a list of laid pieces
  -- a piece's line, or that of a node set aside
  abbrev laid_line : Option (Placement E) → List ℕ
  laid_line o = laid_text E o ++ 10 ∷ []

  abbrev laid_at : Address → Option (Placement E)
  laid_at a = Some (node_placement E N a)

  laid_lines : (rs : List (Record E)) → cutting_list E rs ≡ flat_map laid_line (map (λ (r : Record E). r.laid) rs)
  unfolding line
  laid_lines rs = sym (flat_map-map laid_line (λ (r : Record E). r.laid) rs)

  lines_at : (rs : List (Record E)) (nodes : List Address) → map (λ (r : Record E). r.laid) rs ≡ map laid_at nodes →
      cutting_list E rs ≡ flat_map (λ a. piece_line E (node_placement E N a)) nodes
  lines_at rs nodes e = laid_lines rs ∙ ap (flat_map laid_line) e ∙ flat_map-map laid_line laid_at nodes

  listed_lines : (rs : List (Record E)) → map (λ (r : Record E). r.laid) rs ≡ map laid_at (pieces N) → cutting_list E rs ≡ floor_list E N
  unfolding floor_list
  listed_lines rs e = lines_at rs (pieces N) e

module _ (E : Cyclotomic) (N : JobNumbers) {S : Type 0} (value : S → E.Elem) {C : Type 0} (listed : C → List ℤ) where
  fits_in : (count : ℕ) (xs ys : List (Row C)) → LaysWhole E N listed count xs ys → count ≤ length ys
  fits_in count xs ys w =
      let a = w.lists.room in let b = w.lists.grown.as_long in let m = min-le_left (length xs) most_pieces in omega (arith, a, b, m)

  all_laid : (count : ℕ) (xs ys : List (Row C)) → LaysWhole E N listed count xs ys → AllLaid E N (usable (length xs))
  all_laid count xs ys w = record { passes = w.passes; on_plane = w.lists.on_plane; room = subst (λ n. n ≤ usable (length xs)) w.lists.counted w.lists.room }

  -- all that the printing of a whole job answers
  pub printed : (count : ℕ) (xs ys : List (Row C)) → LaysWhole E N listed count xs ys →
      (old new : List ℕ) (r : Result ℕ (SheetFault S)) → Prints E N (length ys) count (records E listed count ys) old new r →
      MatchResult r
      (λ n. AllLaid E N (usable (length xs)) × (n ≡ length (floor_list E N)) × (n ≤ length old) × (new ≡ floor_list E N ++ drop n old))
      (λ f. NoList E N value (usable (length xs)) (length old) f)
  printed count xs ys w old new (Ok n) p =
      let e = listed_lines E N (records E listed count ys) w.lists.placed in
      (all_laid count xs ys w, p.0 ∙ ap length e, p.1, p.2 ∙ ap (λ t. t ++ drop n old) e)
  printed count xs ys w old new (Err (Listed (Short f))) p = let k = fits_in count xs ys w in let h = p.0 in absurd (omega (arith, k, h))
  printed count xs ys w old new (Err (Listed BeyondLimits)) p = absurd (no_first E N (records E listed count ys) BeyondLimits w.lists.readable.fit p.0.1)
  printed count xs ys w old new (Err (Listed (Ring f))) p = absurd (no_first E N (records E listed count ys) (Ring f) w.lists.readable.fit p.0.1)
  printed count xs ys w old new (Err (Buffer f)) p =
      let e = listed_lines E N (records E listed count ys) w.lists.placed in
      inr (inr (refl, all_laid count xs ys w, subst (λ t. length old < length t) e p.2))
  printed count xs ys w old new (Err NoRoom) p = absurd p
  printed count xs ys w old new (Err WrongLevel) p = absurd p
  printed count xs ys w old new (Err NothingPending) p = absurd p
  printed count xs ys w old new (Err StillPending) p = absurd p
  printed count xs ys w old new (Err (Check f)) p = absurd p
  printed count xs ys w old new (Err (Place f)) p = absurd p
  printed count xs ys w old new (Err (File f)) p = absurd p

  -- and of a job that is not laid whole
  pub stopped : (f : SheetFault S) (xs ys : List (Row C)) (bytes : ℕ) → LaysNotWhole E N listed value f xs ys → NoList E N value (usable (length xs)) bytes f
  stopped f xs ys bytes (inl h) = inl h.0
  stopped f xs ys bytes (inr u) = inr (inl (record {
    passes = u.passes;
    before = u.before;
    at = u.at;
    behind = u.behind;
    whole = u.whole;
    on_plane = u.lists.on_plane;
    stuck = subst (λ n. CannotBeLaid E N (usable (length xs)) n u.at f) u.lists.counted u.stuck;
  }))

-- ---- the job as it was read
-- the text, cut to the length of the list that stands in front of it
pub cut : (n len : ℕ) (list new behind rest items : List ℕ) → n ≡ length list → n ≤ len → new ≡ list ++ behind → items ≡ take n (take len (new ++ rest)) → items ≡ list
cut n len list new behind rest items e h w t =
    t ∙ take-take n len (new ++ rest) h ∙ ap (λ y. take n (y ++ rest)) w ∙ ap (take n) (append_assoc list behind rest) ∙ ap (λ m. take m (list ++ (behind ++ rest))) e ∙ take-append_seam list (behind ++ rest)

-- in so many places and bytes as are lent, where the list is not too long for them
pub in_lent : (E : Cyclotomic) (N N' : JobNumbers) {S T : Type 0} (value : S → E.Elem) (rows bytes : ℕ) → N ≡ N' → rows ≡ most_pieces → bytes ≡ most_bytes → (AllLaid E N most_pieces → most_bytes < length (floor_list E N) → ⊥) →
    (f : SheetFault S) → NoList E N value (usable rows) bytes f → (P : T → Type 0) (r : Result T (FloorFault S)) → IsErrAnd r (λ y. y ≡ Sheet f) → MatchResult r P (λ y. NoFloor E N' value most_pieces y)
in_lent E N N' value rows bytes e p q short f a P (Ok t) z = absurd z
in_lent E N N' value rows bytes e p q short f a P (Err y) z =
    subst (NoFloor E N' value most_pieces) (sym z) (subst (λ M. NoFloor E M value most_pieces (Sheet f)) e
    (go (subst (λ n. NoList E N value (usable n) most_bytes f) p (subst (λ m. NoList E N value (usable rows) m f) q a))))
  where
    go : NoList E N value most_pieces most_bytes f → NoFloor E N value most_pieces (Sheet f)
    go (inl h) = inl h
    go (inr (inl h)) = inr h
    go (inr (inr h)) = absurd (short h.1 h.2)
