-- From the check of a book to that of a job.
use Rattle.std.proofs.Common.{◌≡◌, ℕ, ◌<◌, ◌≤◌, Bool, List, [], ◌∷◌, length, get_or, ℤ, IsErrAnd, Ok, Err, Result, sym, ap, ◌∙◌, subst, inl, inr, arith, MatchResult}
use mathlib.Core.Logic.{∥∥₁_elim}
use Rattle.std.specs.List.{AllByRecursion}
use Rattle.std.proofs.lemmas.List.{length-map, get_or-map, get_or_past}
use Rattle.std.proofs.ByRecursion.{All-get_or, All-map, All-weaker}
use Rattle.std.proofs.lemmas.Bool.{cases_lt}
use Rattle.exact.specs.Cyclotomic.{Cyclotomic, CyclotomicLaws}
use Rattle.exact.specs.JobNumbers.{LabelNumbers, TileNumbers, JobNumbers}
use Rattle.exact.specs.Sizes.{Within, SizeLaws}
use Rattle.exact.proofs.Sizes.{abs_between}
use Rattle.chains.specs.Books.{Book, book_of, label_at, tile_at, label_of, tile_of, placement_of}
use Rattle.book.specs.Points.{WorkedOnThePlane, FirstFault, Rejects, points}
use Rattle.edges.specs.declared.fault.ChainFault.{ChainFault}
use Rattle.edges.specs.declared.fault.ChainFault.TheVariants as chain
use Rattle.book.specs.Faults.{passed_on}
use Rattle.book.specs.declared.fault.BookFault.{BookFault}
use Rattle.book.specs.declared.fault.BookFault.TheVariants as book
use Rattle.job_rows.specs.Limits.{most_parts, most_steps}
use Rattle.jobs.specs.Ranges.{Coefficient, LabelFits, TileFits, PlacedFits, InRange, kinds_of}
use Rattle.small_books.specs.Sizes.{Small, Limited, job_bound}
use Rattle.small_books.proofs.Whole.{stays}
use Rattle.ring_jobs.specs.RingJobs.{OfTheRing}
use Rattle.ring_jobs.specs.Fitted.{relisted, fitted_job}
use Rattle.ring_jobs.proofs.Sets.{numbers_set}
use Rattle.ring_jobs.proofs.Shaping.{fitted_job_same}
use Rattle.job_check.specs.Checks.{UnlessMemory, Fails, NotUsable}
use Rattle.job_check.specs.declared.fault.CheckFault.{CheckFault}
use Rattle.job_check.specs.declared.fault.CheckFault.TheVariants.{WrongRing, Book as BookFails}

said : {S : Type 0} (f : BookFault S) (P : Type 0) → P → UnlessMemory f P
said book.Memory P p = tt
said (book.Factor n) P p = p
said (book.Length e) P p = p
said (book.Subdivision e) P p = p
said (book.Outline t) P p = p
said (book.Unbalanced t d) P p = p
said (book.Ring f) P p = p

-- ---- a job read over a ring of its own rank
-- N' is N with its lists cut or filled up
module _ (E : Cyclotomic) (N N' : JobNumbers) (e : N' ≡ fitted_job E.d N) where
  pub same_ring : OfTheRing E N → OfTheRing E N'
  unfolding relisted
  same_ring o = (ap (λ (M : JobNumbers). M.order) e ∙ o.0, ap (λ (M : JobNumbers). M.rank) e ∙ o.1)

  pub same_ring_back : OfTheRing E N' → OfTheRing E N
  unfolding relisted
  same_ring_back o = (sym (ap (λ (M : JobNumbers). M.order) e) ∙ o.0, sym (ap (λ (M : JobNumbers). M.rank) e) ∙ o.1)

  pub same_job : ∥ InRange N ∥₁ → OfTheRing E N → N' ≡ N
  same_job r o = e ∙ ∥∥₁_elim r (numbers_set _ _) (λ s. fitted_job_same N s E.d o.1)

module _ {S : Type 0} (E : Cyclotomic) (v : S → E.Elem) (N : JobNumbers) where
  -- a fault of the book, handed on
  pub handed : {A : Type 0} (r : Result A (CheckFault S)) (P : A → Type 0) (f : BookFault S) (B : Book E) → B ≡ book_of E N → OfTheRing E N →
      FirstFault E B v (points E B) f → Rejects E B v f → IsErrAnd r (λ y. y ≡ BookFails f) → MatchResult r P (Fails E N v)
  handed (Ok x) P f B e o h k z = absurd z
  handed (Err y) P f B e o h k z = subst (Fails E N v) (sym z) (said f _ (o, subst (λ b. FirstFault E b v (points E b) f) e h, subst (λ b. Rejects E b v f) e k))

  -- want of memory for the ring values
  pub no_room : {A : Type 0} (r : Result A (CheckFault S)) (P : A → Type 0) (e : ChainFault) → e ≡ chain.Memory → IsErrAnd r (λ y. y ≡ BookFails (passed_on e)) → MatchResult r P (NotUsable E N v)
  no_room (Ok x) P e h z = absurd z
  no_room (Err y) P e h z = subst (NotUsable E N v) (sym (z ∙ ap (λ f. BookFails (passed_on f)) h)) tt

  -- ---- a job in range is small
  module _ (L : CyclotomicLaws E) (r : InRange N) (o : OfTheRing E N) where
    within : (l : List ℤ) → AllByRecursion Coefficient l → Within job_bound l
    within [] a = tt
    within (c ∷ l) a = (abs_between job_bound c a.0, within l a.1)

    element_small : (l : List ℤ) → length l ≡ N.rank → AllByRecursion Coefficient l → Within job_bound (E.list (E.of l))
    element_small l e a = subst (Within job_bound) (sym (L.list_of l (e ∙ o.1))) (within l a)

    label_there : (e : ℕ) → e < length N.labels → (l : LabelNumbers) → label_at (book_of E N) e ≡ label_of E (get_or N.labels e l)
    unfolding book_of
    label_there e h l = get_or-map (label_of E) N.labels e l _ h

    tile_there : (t : ℕ) → t < length N.tiles → (x : TileNumbers) → tile_at (book_of E N) t ≡ tile_of E (get_or N.tiles t x)
    unfolding book_of
    tile_there t h x = get_or-map (tile_of E) N.tiles t x _ h

    labels_many : length (book_of E N).labels ≡ length N.labels
    unfolding book_of
    labels_many = length-map N.labels (label_of E)

    tiles_many : length (book_of E N).tiles ≡ length N.tiles
    unfolding book_of
    tiles_many = length-map N.tiles (tile_of E)

    abbrev no_label : LabelNumbers
    no_label = record { arrowed = Bool.false; length = []; subdivision = [] }

    abbrev no_tile : TileNumbers
    no_tile = record { outline = []; children = [] }

    label_fits : (e : ℕ) → e < length N.labels → LabelFits (kinds_of N.labels) N.rank (get_or N.labels e no_label)
    label_fits e h = All-get_or (LabelFits (kinds_of N.labels) N.rank) N.labels e no_label h r.shaped.labels

    tile_fits : (t : ℕ) → t < length N.tiles → TileFits (kinds_of N.labels) N.order N.rank (get_or N.tiles t no_tile)
    tile_fits t h = All-get_or (TileFits (kinds_of N.labels) N.order N.rank) N.tiles t no_tile h r.shaped.tiles

    parts_few : (e : ℕ) → length (label_at (book_of E N) e).subdivision ≤ most_parts
    parts_few e = elim (cases_lt e (length N.labels)) [
      | inl h ↦ subst (λ l. length l.subdivision ≤ most_parts) (sym (label_there e h no_label)) (label_fits e h).1.1
      | inr h ↦ subst (λ l. length l.subdivision ≤ most_parts) (sym (get_or_past (book_of E N).labels e _ (subst (λ n. n ≤ e) (sym labels_many) h))) (omega arith)
    ]

    steps_few : (t : ℕ) → length (tile_at (book_of E N) t).outline ≤ most_steps
    steps_few t = elim (cases_lt t (length N.tiles)) [
      | inl h ↦ subst (λ x. length x.outline ≤ most_steps) (sym (tile_there t h no_tile)) (tile_fits t h).0.1
      | inr h ↦ subst (λ x. length x.outline ≤ most_steps) (sym (get_or_past (book_of E N).tiles t _ (subst (λ n. n ≤ t) (sym tiles_many) h))) (omega arith)
    ]

    limited : Limited E (book_of E N)
    limited = record { parts = parts_few; steps = steps_few }

    factor_small : Within job_bound (E.list (book_of E N).factor)
    unfolding book_of
    factor_small = element_small N.factor r.shaped.factor.0 r.shaped.factor.1

    small : Small E (book_of E N)
    small = record {
      factor = factor_small;
      lengths = λ e h. let k : e < length N.labels = subst (◌<◌ e) labels_many h in
          subst (λ l. Within job_bound (E.list l.length)) (sym (label_there e k no_label)) (element_small _ (label_fits e k).0.0 (label_fits e k).0.1);
      places = λ t h. let k : t < length N.tiles = subst (◌<◌ t) tiles_many h in
          subst (λ x. AllByRecursion (λ p. Within job_bound (E.list p.place)) x.children) (sym (tile_there t k no_tile))
          (All-map (λ p. Within job_bound (E.list p.place)) (placement_of E) (get_or N.tiles t no_tile).children
          (All-weaker (PlacedFits N.order N.rank) (λ p. Within job_bound (E.list (E.of p.place))) (λ p f. element_small p.place f.1.0 f.1.1) _ (tile_fits t k).1.2));
    }

    pub stays_on_the_plane : SizeLaws E → WorkedOnThePlane E (book_of E N)
    stays_on_the_plane Z = stays E L Z (book_of E N) limited small

  -- where every value is on the plane, the ring refuses nothing
  module _ (plane : OfTheRing E N → ∥ WorkedOnThePlane E (book_of E N) ∥₁) where
    pub usable_or_not : (f : CheckFault S) → Fails E N v f → NotUsable E N v f
    usable_or_not WrongRing h = h
    usable_or_not (BookFails (book.Factor n)) h = h
    usable_or_not (BookFails (book.Length e)) h = h
    usable_or_not (BookFails (book.Subdivision e)) h = h
    usable_or_not (BookFails (book.Outline t)) h = h
    usable_or_not (BookFails (book.Unbalanced t d)) h = h
    usable_or_not (BookFails (book.Ring f)) h = (h.0, h.1, ∥∥₁_elim (plane h.0) (λ x y. absurd x) h.2)
    usable_or_not (BookFails book.Memory) h = h

-- from the job over the ring to the job that was read
module _ {S : Type 0} (E : Cyclotomic) (v : S → E.Elem) (N N' : JobNumbers) (e : N' ≡ fitted_job E.d N) (r : ∥ InRange N ∥₁) where
  speaks : (f : BookFault S) → OfTheRing E N' → NotUsable E N' v (BookFails f) → NotUsable E N v (BookFails f)
  speaks f o h = subst (λ (M : JobNumbers). NotUsable E M v (BookFails f)) (same_job E N N' e r (same_ring_back E N N' e o)) h

  pub back : (f : CheckFault S) → NotUsable E N' v f → NotUsable E N v f
  back WrongRing h = λ o. h (same_ring E N N' e o)
  back (BookFails (book.Factor n)) h = speaks (book.Factor n) h.0 h
  back (BookFails (book.Length l)) h = speaks (book.Length l) h.0 h
  back (BookFails (book.Subdivision l)) h = speaks (book.Subdivision l) h.0 h
  back (BookFails (book.Outline t)) h = speaks (book.Outline t) h.0 h
  back (BookFails (book.Unbalanced t d)) h = speaks (book.Unbalanced t d) h.0 h
  back (BookFails (book.Ring f)) h = speaks (book.Ring f) h.0 h
  back (BookFails book.Memory) h = tt

  pub handed_back : {A : Type 0} (x : Result A (CheckFault S)) (P : A → Type 0) (f : CheckFault S) → NotUsable E N' v f → IsErrAnd x (λ y. y ≡ f) → MatchResult x P (NotUsable E N v)
  handed_back (Ok a) P f h z = absurd z
  handed_back (Err y) P f h z = subst (NotUsable E N v) (sym z) (back f h)
