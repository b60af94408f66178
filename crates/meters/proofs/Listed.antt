-- Records read one after another: what is added up, and which pieces' corners have stayed on the plane.
use Rattle.std.proofs.Common.{◌≡◌, ℕ, ◌+◌, ◌<◌, ◌≤◌, ◌↔◌, inl, inr, List, [], ◌∷◌, map, length, get_or, take, drop, Some, None, Option, sym, ap, ◌∙◌, subst, arith, length-take}
use Rattle.std.specs.List.{AllByRecursion}
use Rattle.std.proofs.lemmas.List.{at_drop_more, at_drop_all}
use Rattle.exact.specs.Cyclotomic.{Cyclotomic}
use Rattle.exact.specs.Groups.{AbelianGroup, AbelianLaws}
use Rattle.exact.specs.JobNumbers.{JobNumbers}
use Rattle.chains.specs.Counts.{reading}
use Rattle.chains.specs.Books.{Placement, book_of}
use Rattle.chains.specs.Edges.{Edge}
use Rattle.chains.specs.Placements.{outlines}
use Rattle.chains.specs.Theorems.{RealLengths}
use Rattle.rings.specs.declared.fault.RingFault.{RingFault}
use Rattle.edges.proofs.Gather.{all_row}
use Rattle.calls.specs.Records.{Record, with_laid, laid_pieces}
use Rattle.calls.specs.Fits.{Fits, PieceOnPlane, ListUnfit}
use Rattle.calls.proofs.Firsts.{no_first}
use Rattle.calls.specs.declared.fault.ListFault.{ListFault}
use Rattle.calls.specs.declared.fault.ListFault.TheVariants.{Short, BeyondLimits, Ring}
use Rattle.meters.specs.Pieces.{CornersKept, Readable, Unreadable}
use Rattle.meters.proofs.Laid.{no_outline, outline_before}
use Rattle.meters.proofs.Summing as summing

-- a list of so many rows at the front of another
pub front_fits : {A : Type 0} (rows list : List A) (count : ℕ) → rows ≡ take count list → length rows ≡ count → count ≤ length list
front_fits rows list count e h = omega (arith, length-take count list, ap length e)

module _ (E : Cyclotomic) (N : JobNumbers) where
  -- a list that cannot be used cannot be read
  pub unfit_unread : (room count : ℕ) (rs : List (Record E)) (f : ListFault) → ListUnfit E N room count rs f → Unreadable E N room count rs f
  unfit_unread room count rs (Short f) h = h
  unfit_unread room count rs BeyondLimits h = h
  unfit_unread room count rs (Ring f) h = inl h

  -- what can be read is not refused
  pub read_unrefused : (room count : ℕ) (rs : List (Record E)) (f : ListFault) → Readable E N room count rs → Unreadable E N room count rs f → ⊥
  read_unrefused room count rs (Short f) h u = let l = h.long in omega arith
  read_unrefused room count rs BeyondLimits h u = no_first E N rs BeyondLimits h.fit u.1
  read_unrefused room count rs (Ring f) h (inl u) = no_first E N rs (Ring f) h.fit u.1
  read_unrefused room count rs (Ring f) h (inr u) = u.2 h.kept

  kept_before : (o : Option (Placement E)) (ps : List (Placement E)) → CornersKept E N (with_laid o ps) → CornersKept E N (with_laid o []) × CornersKept E N ps
  kept_before None ps k = (tt, k)
  kept_before (Some p) ps k = ((k.0, tt), k.1)

  kept_with : (o : Option (Placement E)) (ps : List (Placement E)) → CornersKept E N (with_laid o []) → CornersKept E N ps → CornersKept E N (with_laid o ps)
  kept_with None ps h k = k
  kept_with (Some p) ps h k = (h.0, k)

  module _ {A : Type 0} (view : A → Record E) (rows : List A) where
    -- the pieces of the records from number i on
    abbrev pub rest : ℕ → List (Placement E)
    rest i = laid_pieces (map view (drop i rows))

    rest_more : (i : ℕ) (row : A) → i < length rows → row ≡ get_or rows i row → rest i ≡ with_laid (view row).laid (rest (i + 1))
    unfolding laid_pieces
    rest_more i row h is = at_drop_more (λ l. laid_pieces (map view l)) rows i row h ∙ ap (λ x. with_laid (view x).laid (rest (i + 1))) (sym is)

    rest_none : (i : ℕ) → length rows ≤ i → rest i ≡ []
    unfolding laid_pieces
    rest_none i h = at_drop_all (λ l. laid_pieces (map view l)) rows i h

    module _ (G : AbelianGroup) (M : AbelianLaws G) (r : Edge E → G.Val) where
      pub record RowsSoFar (i : ℕ) (a : G.Val) : Type 0 where
        pub keeps : CornersKept E N (rest 0) ↔ CornersKept E N (rest i)
        pub adds_up : RealLengths E (book_of E N) → G.sum a (reading G r (outlines E (book_of E N) (rest i))) ≡ reading G r (outlines E (book_of E N) (rest 0))

      pub rows_start : (a : G.Val) → a ≡ G.zero → RowsSoFar 0 a
      rows_start a z = record { keeps = (λ k. k, λ k. k); adds_up = λ real. summing.begins G M r a (outlines E (book_of E N) (rest 0)) z }

      module _ (i : ℕ) (a : G.Val) (so_far : RowsSoFar i a) where
        module _ (row : A) (more : i < length rows) (is : row ≡ get_or rows i row) where
          abbrev laid : Option (Placement E)
          laid = (view row).laid

          all_kept_on : CornersKept E N (rest 0) → CornersKept E N (with_laid laid []) × CornersKept E N (rest (i + 1))
          all_kept_on k = kept_before laid (rest (i + 1)) (subst (CornersKept E N) (rest_more i row more is) (so_far.keeps.0 k))

          pub row_kept : CornersKept E N (rest 0) → CornersKept E N (with_laid laid [])
          row_kept k = (all_kept_on k).0

          pub rows_go_on : (b a' : G.Val) → CornersKept E N (with_laid laid []) → (RealLengths E (book_of E N) → b ≡ reading G r (outlines E (book_of E N) (with_laid laid []))) →
              a' ≡ G.sum a b → RowsSoFar (i + 1) a'
          rows_go_on b a' kept told plus = record {
            keeps = (λ k. (all_kept_on k).1, λ k. so_far.keeps.1 (subst (CornersKept E N) (sym (rest_more i row more is)) (kept_with laid (rest (i + 1)) kept k)));
            adds_up = λ real. summing.adds_some G M r a b a' _ plus (outlines E (book_of E N) (with_laid laid [])) (outlines E (book_of E N) (rest (i + 1))) (outlines E (book_of E N) (rest i))
                (ap (outlines E (book_of E N)) (rest_more i row more is) ∙ outline_before E (book_of E N) laid (rest (i + 1))) (told real) (so_far.adds_up real);
          }

        module _ (past : length rows ≤ i) where
          pub all_corners_kept : CornersKept E N (rest 0)
          all_corners_kept = so_far.keeps.1 (subst (CornersKept E N) (sym (rest_none i past)) tt)

          pub all_rows_read : RealLengths E (book_of E N) → a ≡ reading G r (outlines E (book_of E N) (rest 0))
          all_rows_read real = summing.ends G M r a _ (outlines E (book_of E N) (rest i)) (ap (outlines E (book_of E N)) (rest_none i past) ∙ no_outline E (book_of E N)) (so_far.adds_up real)

    -- the rows are the first so many of a list, and their records all fit
    module _ (list : List A) (count : ℕ) (front : rows ≡ take count list) (many : length rows ≡ count) (fit : AllByRecursion (Fits E N) (map view (take count list))) where
      abbrev records : List (Record E)
      records = map view (take count list)

      pieces_are : rest 0 ≡ laid_pieces records
      pieces_are = ap (λ l. laid_pieces (map view l)) front

      module _ (G : AbelianGroup) (M : AbelianLaws G) (r : Edge E → G.Val) (i : ℕ) (a : G.Val) (so_far : RowsSoFar G M r i a) where
        pub list_read : length rows ≤ i →
            Readable E N (length list) count records × (RealLengths E (book_of E N) → a ≡ reading G r (outlines E (book_of E N) (laid_pieces records)))
        list_read past = (
          record { long = front_fits rows list count front many; fit = fit; kept = subst (CornersKept E N) pieces_are (all_corners_kept G M r i a so_far past) },
          λ real. all_rows_read G M r i a so_far past real ∙ ap (λ ps. reading G r (outlines E (book_of E N) ps)) pieces_are,
        )

        pub row_refused : (row : A) (f : RingFault) → i < length rows → row ≡ get_or rows i row →
            (PieceOnPlane E N (view row).laid × CornersKept E N (with_laid (view row).laid []) → ⊥) → Unreadable E N (length list) count records (Ring f)
        row_refused row f more is off = inr (
          front_fits rows list count front many,
          fit,
          λ k. off (
            (all_row view (Fits E N) rows i row more is (subst (λ l. AllByRecursion (Fits E N) (map view l)) (sym front) fit)).1,
            row_kept G M r i a so_far row more is (subst (CornersKept E N) (sym pieces_are) k),
          ),
        )
