-- The two books and the worked frontier, by computing.
use Rattle.std.proofs.Common.{◌≡◌, ℕ, zero, suc, ◌<◌, Bool, true, false, ◌&&◌, List, [], ◌∷◌, ◌++◌, ℤ, pos, negsuc, sym, refl, ap, true≢false, arith}
use mathlib.Core.Bool.{and-eq-true_iff, false≢true}
use mathlib.Core.List.{flat_map}
use Rattle.std.specs.Ordering.{int_eq}
use Rattle.std.specs.List.{AllByRecursion}
use Rattle.std.proofs.lemmas.Bool.Decides.{Decides-int_eq}
use Rattle.exact.specs.Cyclotomic.{Cyclotomic, CyclotomicLaws}
use Rattle.exact.specs.JobNumbers.{Part, PlacedNumbers}
use Rattle.exact.specs.Models.{gaussian, tenfold}
use Rattle.exact.proofs.GaussianLaws.{gaussian_laws}
use Rattle.exact.proofs.TenfoldLaws.{tenfold_laws}
use Rattle.chains.specs.Counts.{scaled, tally}
use Rattle.chains.specs.Books.{Book, book_of, seeds_of, tile_at}
use Rattle.chains.specs.Edges.{Chain, plus_turn, minus_turn, edge, same_edge, along, reversed, canonical, net, step_count, walk, corners, walk_end}
use Rattle.chains.specs.Inflation.{stepped, subdivided, inflate, inflated}
use Rattle.chains.specs.Placements.{image, heading, signed, placed_edge, placed_entry, placed, stretched, child_of, children_of, outline, placed_outline, outlines}
use Rattle.chains.specs.Accepted.{lengths, turned_part, backwards, total_sweep, FactorAboveOne, LengthAboveZero, SubdivisionFits, OutlineCloses, ChildrenBalance, Accepted}
use Rattle.chains.specs.Addresses.{child_count, child_tile, seed_tile, tile_below, node_tile, seeds_from, children_from, child_placement, placement_below, seed_placement, node_placement}
use Rattle.chains.specs.Frontiers.{Reached, expand, lay, set_aside, at_start, then, node_outline, grown_outline, laid_outlines, lacking_outlines, seed_outlines}
use Rattle.chains.specs.Examples.{chair, penrose, one_chair, one_chair_laid, chair_child, OneChairLaidCounts, OutlineSweeps, WrongMarkShows, EachConditionRefuses}
use Rattle.chains.proofs.Occurring.{suffices}

-- every definition that a computed case goes through
unfoldable pub opened : ℕ
unfolding scaled tally book_of seeds_of plus_turn minus_turn edge same_edge along reversed canonical net step_count walk corners walk_end stepped subdivided inflate inflated image heading signed placed_edge placed_entry placed stretched child_of children_of outline placed_outline outlines lengths turned_part backwards total_sweep child_count child_tile seed_tile tile_below node_tile seeds_from children_from child_placement placement_below seed_placement node_placement node_outline grown_outline laid_outlines lacking_outlines seed_outlines flat_map
opened = 0

-- equal net counts at each edge of zs
agree : (E : Cyclotomic) → Book E → Chain E → Chain E → Chain E → Bool
agree E B xs ys [] = true
agree E B xs ys (z ∷ zs) = int_eq (net E B xs (canonical E B z).what) (net E B ys (canonical E B z).what) && agree E B xs ys zs

agrees : (E : Cyclotomic) (B : Book E) (xs ys zs : Chain E) → agree E B xs ys zs ≡ true → AllByRecursion (λ z. net E B xs (canonical E B z).what ≡ net E B ys (canonical E B z).what) zs
unfolding agree
agrees E B xs ys [] h = tt
agrees E B xs ys (z ∷ zs) h = let p = (and-eq-true_iff _ _).0 h in ((Decides-int_eq _ _).0 p.0, agrees E B xs ys zs p.1)

-- a tile's children and its inflated outline agree at the edges that occur in them
family : (E : Cyclotomic) → Book E → ℕ → Bool
family E B t = agree E B (outlines E B (tile_at B t).children) (inflate E B (outline E B t)) (outlines E B (tile_at B t).children ++ inflate E B (outline E B t))

balances : (E : Cyclotomic) → CyclotomicLaws E → (B : Book E) (t : ℕ) → family E B t ≡ true → ChildrenBalance E B t
unfolding family
balances E L B t h = suffices E L B (outlines E B (tile_at B t).children) (inflate E B (outline E B t)) (agrees E B _ _ _ h)

-- what holds of each number below 1, and below 2
just_zero : (P : ℕ → Type 0) → P 0 → (e : ℕ) → e < 1 → P e
just_zero P p zero h = p
just_zero P p (suc e) h = absurd (omega arith)

zero_and_one : (P : ℕ → Type 0) → P 0 → P 1 → (e : ℕ) → e < 2 → P e
zero_and_one P p q zero h = p
zero_and_one P p q (suc e) h = just_zero (λ k. P (suc k)) q e (omega arith)

-- ---- the chair
module _ (depth : ℕ) (seeds : List PlacedNumbers) where
  chair_factor : FactorAboveOne gaussian (book_of gaussian (chair depth seeds))
  unfolding opened
  chair_factor = record { real = refl; above_one = refl }

  chair_length : LengthAboveZero gaussian (book_of gaussian (chair depth seeds)) 0
  unfolding opened
  chair_length = record { real = refl; above_zero = refl }

  chair_subdivision : SubdivisionFits gaussian (book_of gaussian (chair depth seeds)) 0
  unfolding opened
  chair_subdivision = record { lengths_add = refl; palindrome = λ _. refl }

  chair_closes : OutlineCloses gaussian (book_of gaussian (chair depth seeds)) 0
  unfolding opened
  chair_closes = record { ends_at_zero = refl; area_above_zero = refl }

  chair_family : family gaussian (book_of gaussian (chair depth seeds)) 0 ≡ true
  unfolding opened agree family
  chair_family = refl

  pub chair_accepted : Accepted gaussian (book_of gaussian (chair depth seeds))
  unfolding book_of
  chair_accepted = record {
    factor_fits = chair_factor;
    lengths_fit = just_zero (LengthAboveZero gaussian (book_of gaussian (chair depth seeds))) chair_length;
    subdivisions_fit = just_zero (SubdivisionFits gaussian (book_of gaussian (chair depth seeds))) chair_subdivision;
    outlines_close = just_zero (OutlineCloses gaussian (book_of gaussian (chair depth seeds))) chair_closes;
    children_balance = just_zero (ChildrenBalance gaussian (book_of gaussian (chair depth seeds))) (balances gaussian gaussian_laws (book_of gaussian (chair depth seeds)) 0 chair_family);
  }

-- ---- Penrose's tiles
module _ (depth : ℕ) (seeds : List PlacedNumbers) where
  penrose_factor : FactorAboveOne tenfold (book_of tenfold (penrose depth seeds))
  unfolding opened
  penrose_factor = record { real = refl; above_one = refl }

  penrose_length_0 : LengthAboveZero tenfold (book_of tenfold (penrose depth seeds)) 0
  unfolding opened
  penrose_length_0 = record { real = refl; above_zero = refl }

  penrose_length_1 : LengthAboveZero tenfold (book_of tenfold (penrose depth seeds)) 1
  unfolding opened
  penrose_length_1 = record { real = refl; above_zero = refl }

  penrose_subdivision_0 : SubdivisionFits tenfold (book_of tenfold (penrose depth seeds)) 0
  unfolding opened
  penrose_subdivision_0 = record { lengths_add = refl; palindrome = λ plain. absurd (true≢false plain) }

  penrose_subdivision_1 : SubdivisionFits tenfold (book_of tenfold (penrose depth seeds)) 1
  unfolding opened
  penrose_subdivision_1 = record { lengths_add = refl; palindrome = λ plain. absurd (true≢false plain) }

  penrose_closes_0 : OutlineCloses tenfold (book_of tenfold (penrose depth seeds)) 0
  unfolding opened
  penrose_closes_0 = record { ends_at_zero = refl; area_above_zero = refl }

  penrose_closes_1 : OutlineCloses tenfold (book_of tenfold (penrose depth seeds)) 1
  unfolding opened
  penrose_closes_1 = record { ends_at_zero = refl; area_above_zero = refl }

  penrose_family_0 : family tenfold (book_of tenfold (penrose depth seeds)) 0 ≡ true
  unfolding opened agree family
  penrose_family_0 = refl

  penrose_family_1 : family tenfold (book_of tenfold (penrose depth seeds)) 1 ≡ true
  unfolding opened agree family
  penrose_family_1 = refl

  pub penrose_accepted : Accepted tenfold (book_of tenfold (penrose depth seeds))
  unfolding book_of
  penrose_accepted = record {
    factor_fits = penrose_factor;
    lengths_fit = zero_and_one (LengthAboveZero tenfold (book_of tenfold (penrose depth seeds))) penrose_length_0 penrose_length_1;
    subdivisions_fit = zero_and_one (SubdivisionFits tenfold (book_of tenfold (penrose depth seeds))) penrose_subdivision_0 penrose_subdivision_1;
    outlines_close = zero_and_one (OutlineCloses tenfold (book_of tenfold (penrose depth seeds))) penrose_closes_0 penrose_closes_1;
    children_balance = zero_and_one (ChildrenBalance tenfold (book_of tenfold (penrose depth seeds)))
        (balances tenfold tenfold_laws (book_of tenfold (penrose depth seeds)) 0 penrose_family_0) (balances tenfold tenfold_laws (book_of tenfold (penrose depth seeds)) 1 penrose_family_1);
  }

-- ---- one chair laid
one_laid : Reached one_chair one_chair_laid
unfolding opened
one_laid = then _ _ (then _ _ at_start (expand [] [] [] [] (record { seed = 0; path = [] }) (omega arith))) (lay [] [] [] (chair_child 1 ∷ chair_child 2 ∷ chair_child 3 ∷ []) (chair_child 0) refl)

pub one_chair_counts : OneChairLaidCounts
unfolding opened
one_chair_counts = record {
  reached = one_laid;
  reached_later = then _ _ (then _ _ one_laid (lay (chair_child 0 ∷ []) [] [] (chair_child 2 ∷ chair_child 3 ∷ []) (chair_child 1) refl)) (set_aside (chair_child 0 ∷ chair_child 1 ∷ []) [] [] (chair_child 3 ∷ []) (chair_child 2));
  laid_counts = refl;
  pending_counts = refl;
  seed_counts = refl;
}

pub outline_sweeps : OutlineSweeps
unfolding opened
outline_sweeps = record { chair_sweep = refl; penrose_sweep_0 = refl; penrose_sweep_1 = refl }

-- ---- a wrong mark
pub wrong_mark_shows : WrongMarkShows
unfolding opened
wrong_mark_shows = record { the_parent = refl; the_children = refl; the_right_mark = refl; the_wrong_mark = refl }

-- ---- each condition refuses something
zero_one : ◌≡◌ {A = ℤ} (pos 0) (pos 1) → ⊥
zero_one e = let z : ◌≡◌ {A = ℕ} 0 1 = cc in omega arith

one_zero : ◌≡◌ {A = ℤ} (pos 1) (pos 0) → ⊥
one_zero e = zero_one (sym e)

one_two : ◌≡◌ {A = ℤ} (pos 1) (pos 2) → ⊥
one_two e = let z : ◌≡◌ {A = ℕ} 1 2 = cc in omega arith

minus_one : ◌≡◌ {A = ℤ} (negsuc 0) (pos 1) → ⊥
minus_one e = let z : ◌≡◌ {A = ℕ} 0 1 = cc in omega arith

first_sense : List Part → Bool
first_sense [] = false
first_sense (p ∷ ps) = p.forward

pub each_refuses : EachConditionRefuses
unfolding opened first_sense
each_refuses = record {
  factor_one = λ h. zero_one h.above_one;
  factor_i = λ h. minus_one (ap (λ x. x.c1) h.real);
  length_below_zero = λ h. minus_one h.above_zero;
  half_missing = λ h. one_two (ap (λ x. x.c0) h.lengths_add);
  not_a_palindrome = λ h. false≢true (ap first_sense (h.palindrome refl));
  left_open = λ h. one_zero (ap (λ x. x.c0) h.ends_at_zero);
  clockwise = λ h. minus_one h.area_above_zero;
  unbalanced = λ h. zero_one (h (record { label = 0; direction = 0; start = gaussian.zero }));
}
