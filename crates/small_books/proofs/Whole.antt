-- All points of a small book.
use Rattle.std.proofs.Common.{ℕ, length, Ok, Err, Result, sym, subst, inl, inr, arith, MatchResult}
use Rattle.std.proofs.lemmas.Bool.{cases_lt}
use Rattle.std.proofs.lemmas.List.{get_or_past}
use Rattle.std.proofs.ByRecursion.{All-append}
use Rattle.exact.specs.Cyclotomic.{Cyclotomic, CyclotomicLaws}
use Rattle.exact.specs.Sizes.{Within, SizeLaws}
use Rattle.exact.proofs.Sizes.{within_wider}
use Rattle.chains.specs.Books.{Book, label_at}
use Rattle.chains.specs.Accepted.{Accepted}
use Rattle.book.specs.declared.fault.BookFault.{BookFault}
use Rattle.book.specs.declared.fault.BookFault.TheVariants.{Factor, Length, Subdivision, Outline, Unbalanced, Ring, Memory}
use Rattle.book.specs.Points.{Kept, Rejects, WorkedOnThePlane, points, length_points, subdivision_points, outline_points}
use Rattle.book.specs.Points.Point.{length_of, subdivision_of, outline_of, children_of}
use Rattle.book.proofs.Added.{zero_within}
use Rattle.book.proofs.Judging.{all_below}
use Rattle.small_books.specs.Sizes.{Small, NotAccepted, SmallBooksStayOnThePlane}
use Rattle.small_books.proofs.Keeping.{kept_factor, kept_length, kept_subdivision, kept_round, kept_balance}

module _ (E : Cyclotomic) (L : CyclotomicLaws E) (Z : SizeLaws E) where
  -- beyond the last label the length is 0
  everywhere : (B : Book E) → Small E B → (e : ℕ) → Within 32 (E.list (label_at B e).length)
  everywhere B s e = elim (cases_lt e (length B.labels)) [
    | inl h ↦ s.lengths e h
    | inr h ↦ subst (λ l. Within 32 (E.list l.length)) (sym (get_or_past B.labels e _ h)) (within_wider 0 32 _ (omega arith) (zero_within E L))
  ]

  pub stays : SmallBooksStayOnThePlane E
  unfolding points
  stays B l s =
      let K = Kept E B in let w = everywhere B s in (
        kept_factor E L Z B l.steps l.parts s.factor w,
        All-append K (length_points E B) _ (all_below K length_of (length B.labels) (λ e _. kept_length E L Z B l.steps l.parts s.factor w e))
            (All-append K (subdivision_points E B) _ (all_below K subdivision_of (length B.labels) (λ e _. kept_subdivision E L Z B l.steps l.parts s.factor w e))
            (All-append K (outline_points E B) _ (all_below K outline_of (length B.tiles) (λ t _. kept_round E L Z B l.steps l.parts s.factor w t))
            (all_below K children_of (length B.tiles) (λ t h. kept_balance E L Z B l.steps l.parts s.factor w t (s.places t h))))),
      )

-- where every value is on the plane, the ring refuses nothing
pub never_refuses : (E : Cyclotomic) (B : Book E) {S A : Type 0} (v : S → E.Elem) (r : Result A (BookFault S)) → WorkedOnThePlane E B →
    MatchResult r (λ _. Accepted E B × WorkedOnThePlane E B) (Rejects E B v) → MatchResult r (λ _. Accepted E B) (NotAccepted (Accepted E B))
never_refuses E B v (Ok x) k c = c.0
never_refuses E B v (Err (Factor n)) k c = c
never_refuses E B v (Err (Length e)) k c = c
never_refuses E B v (Err (Subdivision e)) k c = c
never_refuses E B v (Err (Outline t)) k c = c
never_refuses E B v (Err (Unbalanced t d)) k c = c
never_refuses E B v (Err (Ring f)) k c = c k
never_refuses E B v (Err Memory) k c = tt
