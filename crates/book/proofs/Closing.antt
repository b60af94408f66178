-- What the way once round says of a tile's outline.
use Rattle.std.proofs.Common.{◌≡◌, ℕ, ◌*◌, ◌≤◌, Bool, List, map, length, pos, Ok, Decides, sym, ap, ◌∙◌, subst, arith}
use Rattle.std.proofs.lemmas.List.{length-map}
use Rattle.exact.specs.Cyclotomic.{Cyclotomic, CyclotomicLaws}
use Rattle.exact.specs.Residues.{Total}
use Rattle.exact.specs.Sizes.{Within}
use Rattle.exact.specs.Sweeps.{sweep_through, total_of, read_total}
use Rattle.exact.proofs.Sizes.{within_wider}
use Rattle.rings.specs.Plane.{sweep_bound, height_bound}
use Rattle.chains.specs.Books.{tile_at}
use Rattle.chains.specs.Edges.{corners, walk_end}
use Rattle.chains.specs.Accepted.{total_sweep, OutlineCloses}
use Rattle.job_rows.specs.declared.Book.{Book}
use Rattle.job_rows.specs.declared.Step.{Step}
use Rattle.edges.specs.Views.{book_view}
use Rattle.job_rows.specs.Shapes.{step_of}
use Rattle.job_rows.specs.Limits.{most_steps}
use Rattle.edges.specs.Working.{KeptWalk, KeptOutline}
use Rattle.book.specs.Points.{KeptRound, Tested}
use Rattle.book.proofs.Added.{read_total_of}
use Rattle.book.proofs.Short.{few_steps}
use Rattle.book.proofs.Tests as tests

module _ {S : Type 0} (E : Cyclotomic) (v : S → E.Elem) (b : Book S) (t : ℕ) where
  -- once the sweep is known, so is its height
  pub kept_then : (z : E.Elem) → z ≡ total_sweep E (book_view E v b) t → KeptRound E (book_view E v b) t → Within height_bound (E.list z)
  kept_then z e k = subst (λ y. Within height_bound (E.list y)) (sym e) k.area

  module _ (steps : List Step) (s : map step_of steps ≡ (tile_at (book_view E v b) t).outline) where
    pub walked : KeptRound E (book_view E v b) t → KeptWalk E (book_view E v b) (map step_of steps) E.zero
    unfolding KeptOutline
    walked k = subst (λ l. KeptWalk E (book_view E v b) l E.zero) (sym s) k.corners

    pub opens_then : OutlineCloses E (book_view E v b) t → walk_end E (book_view E v b) (map step_of steps) E.zero ≡ E.zero
    opens_then h = ap (λ l. walk_end E (book_view E v b) l E.zero) s ∙ h.ends_at_zero

    few : length steps ≤ most_steps
    few = subst (λ n. n ≤ most_steps) (ap length (sym s) ∙ length-map steps step_of) (few_steps E v b t)

    wide : (n : ℕ) → n ≤ 12 → n * sweep_bound ≤ 12 * sweep_bound
    wide n h = omega arith

    pub area_is : (L : CyclotomicLaws E) (u : Total) → u ≡ total_of E (sweep_through E E.zero (corners E (book_view E v b) (map step_of steps) E.zero)) →
        Within (length steps * sweep_bound) (E.list (sweep_through E E.zero (corners E (book_view E v b) (map step_of steps) E.zero))) → read_total E u ≡ total_sweep E (book_view E v b) t
    unfolding total_sweep
    area_is L u e w =
        ap (read_total E) e ∙ read_total_of E L _ (within_wider (length steps * sweep_bound) (12 * sweep_bound) _ (wide (length steps) few) w)
        ∙ ap (λ l. sweep_through E E.zero (corners E (book_view E v b) l E.zero)) s

    pub closes_then : (z : E.Elem) → z ≡ total_sweep E (book_view E v b) t → walk_end E (book_view E v b) (map step_of steps) E.zero ≡ E.zero → KeptWalk E (book_view E v b) (map step_of steps) E.zero →
        Within height_bound (E.list z) → (w : Bool) → Decides w (E.height z ≡ pos 1) → Tested (Ok w) (OutlineCloses E (book_view E v b) t) (KeptRound E (book_view E v b) t)
    unfolding KeptOutline
    closes_then z e c k a w d =
        tests.decided w _ _ _
        (λ h. record { ends_at_zero = ap (λ l. walk_end E (book_view E v b) l E.zero) (sym s) ∙ c; area_above_zero = subst (λ y. E.height y ≡ pos 1) e h })
        (λ h. subst (λ y. E.height y ≡ pos 1) (sym e) h.area_above_zero)
        (record { corners = subst (λ l. KeptWalk E (book_view E v b) l E.zero) s k; area = subst (λ y. Within height_bound (E.list y)) e a }) d
