-- What is read off the laid pieces of records, one record after another.
use Rattle.std.proofs.Common.{◌≡◌, ℕ, Bool, true, List, [], ◌∷◌, ◌++◌, Some, None, Option, Ok, Err, Result, sym, refl, ap, ◌∙◌, subst, append-nil}
use mathlib.Core.List.{flat_map}
use Rattle.exact.specs.Cyclotomic.{Cyclotomic}
use Rattle.exact.specs.Groups.{AbelianGroup}
use Rattle.exact.specs.JobNumbers.{JobNumbers}
use Rattle.chains.specs.Counts.{reading}
use Rattle.chains.specs.Books.{Book, Placement, book_of}
use Rattle.chains.specs.Edges.{Edge}
use Rattle.chains.specs.Placements.{placed_outline, outlines}
use Rattle.chains.specs.Theorems.{RealLengths}
use Rattle.chains.proofs.Images.{put}
use Rattle.rings.specs.Plane.{OnPlane}
use Rattle.rings.specs.declared.fault.RingFault.{RingFault}
use Rattle.edges.specs.Answers.{Worked}
use Rattle.nodes.specs.OnPlane.{kept_corners}
use Rattle.calls.specs.Fits.{PieceOnPlane}
use Rattle.calls.specs.Records.{with_laid}
use Rattle.meters.specs.Pieces.{CornersKept}

worked_weaker : {X : Type 0} (r : Result X RingFault) (P P' : X → Type 0) (K K' : Type 0) → ((x : X) → P x → P' x) → (K → K') → (K' → K) → Worked r P K → Worked r P' K'
worked_weaker (Ok x) P P' K K' f h k a = record { is = (f x a.is.0, h a.is.1) }
worked_weaker (Err e) P P' K K' f h k a = record { is = (a.is.0, λ z. a.is.1 (k z)) }

module _ (E : Cyclotomic) (B : Book E) where
  pub no_outline : outlines E B [] ≡ []
  unfolding outlines flat_map
  no_outline = refl

  one_outline : (p : Placement E) → outlines E B (p ∷ []) ≡ placed_outline E B p
  unfolding outlines flat_map
  one_outline p = append-nil (placed_outline E B p)

  -- a record's piece stands before those of the records after it
  pub outline_before : (o : Option (Placement E)) (ps : List (Placement E)) → outlines E B (with_laid o ps) ≡ outlines E B (with_laid o []) ++ outlines E B ps
  unfolding outlines flat_map
  outline_before None ps = refl
  outline_before (Some p) ps = ap (λ l. l ++ outlines E B ps) (sym (one_outline p))

module _ (E : Cyclotomic) (N : JobNumbers) {X : Type 0} (G : AbelianGroup) (worth : X → G.Val) (reads : Book E → Edge E → G.Val) (answer : Result X RingFault) where
  -- what is answered for one placed tile, and for one record
  abbrev pub PieceRead : Book E → Placement E → Type 0
  PieceRead B p = Worked answer (λ x. RealLengths E B → worth x ≡ reading G (reads B) (placed_outline E B p)) (kept_corners E B p ≡ true)

  abbrev pub RowRead : Option (Placement E) → Type 0
  RowRead o = Worked answer
      (λ x. RealLengths E (book_of E N) → worth x ≡ reading G (reads (book_of E N)) (outlines E (book_of E N) (with_laid o [])))
      (PieceOnPlane E N o × CornersKept E N (with_laid o []))

  as_a_row : (p : Placement E) → OnPlane E p.place → PieceRead (book_of E N) p → RowRead (Some p)
  as_a_row p here w = worked_weaker answer _ _ _ _ (λ x h real. h real ∙ ap (reading G (reads (book_of E N))) (sym (one_outline E (book_of E N) p))) (λ k. (here, (k, tt))) (λ k. k.1.0) w

  -- the book as the code has it, and a place that is equal to the record's
  pub piece_read : (B : Book E) → book_of E N ≡ B → (t k : ℕ) (m : Bool) (a b : E.Elem) → a ≡ b → OnPlane E b → PieceRead B (put t k m a) → RowRead (Some (put t k m b))
  piece_read B same t k m a b e here w = as_a_row (put t k m b) here (subst (λ C. PieceRead C (put t k m b)) (sym same) (subst (λ z. PieceRead B (put t k m z)) e w))

module _ (E : Cyclotomic) (N : JobNumbers) {X : Type 0} (G : AbelianGroup) (worth : X → G.Val) (reads : Book E → Edge E → G.Val) where
  pub none_read : (x : X) → worth x ≡ G.zero → RowRead E N G worth reads (Ok x) None
  unfolding reading
  none_read x e = record { is = (λ real. e ∙ sym (ap (reading G (reads (book_of E N))) (no_outline E (book_of E N))), (tt, tt)) }
