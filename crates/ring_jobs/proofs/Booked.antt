-- The book of a job over a ring is the one that its numbers say.
use Rattle.std.proofs.Common.{◌≡◌, List, [], ◌∷◌, map, vec_items, refl, ap₂}
use Rattle.exact.specs.Cyclotomic.{Cyclotomic, CyclotomicLaws}
use Rattle.chains.specs.Books.{label_of, placement_of, tile_of, book_of, seeds_of}
use Rattle.job_rows.specs.declared.Label.{Label}
use Rattle.job_rows.specs.declared.Placed.{Placed}
use Rattle.job_rows.specs.declared.Tile.{Tile}
use Rattle.edges.specs.Views.{label_view, placement_view, tile_view, book_view}
use Rattle.job_rows.specs.Shapes.{label_with, placed_with, tile_with}
use Rattle.ring_jobs.specs.RingJobs.{coefficients, job_numbers}
use Rattle.ring_jobs.specs.declared.job.RingJob.{RingJob}

module _ {S : Type 0} (E : Cyclotomic) (L : CyclotomicLaws E) (v : S → E.Elem) where
  placed_is : (ps : List (Placed S)) → map (placement_of E) (map (placed_with (coefficients E v)) ps) ≡ map (placement_view E v) ps
  placed_is [] = refl
  placed_is (p ∷ ps) = ap₂ ◌∷◌ (λ i. record { tile = p.tile; turn = p.turn; mirrored = p.mirrored; place = L.of_list (v p.place) i }) (placed_is ps)

  labels_are : (ls : List (Label S)) → map (label_of E) (map (label_with (coefficients E v)) ls) ≡ map (label_view E v) ls
  labels_are [] = refl
  labels_are (l ∷ ls) = ap₂ ◌∷◌ (λ i. record { arrowed = l.arrowed; length = L.of_list (v l.length) i; subdivision = (label_view E v l).subdivision }) (labels_are ls)

  tiles_are : (ts : List (Tile S)) → map (tile_of E) (map (tile_with (coefficients E v)) ts) ≡ map (tile_view E v) ts
  tiles_are [] = refl
  tiles_are (t ∷ ts) = ap₂ ◌∷◌ (λ i. record { outline = (tile_view E v t).outline; children = placed_is (vec_items t.children) i }) (tiles_are ts)

  pub book_is : (j : RingJob S) → book_of E (job_numbers E v j) ≡ book_view E v j.book
  unfolding book_of book_view
  book_is j = λ i. record { factor = L.of_list (v j.book.factor) i; labels = labels_are (vec_items j.book.labels) i; tiles = tiles_are (vec_items j.book.tiles) i }

  pub seeds_are : (j : RingJob S) → seeds_of E (job_numbers E v j) ≡ map (placement_view E v) (vec_items j.seeds)
  unfolding seeds_of
  seeds_are j = placed_is (vec_items j.seeds)

  pub order_is : (j : RingJob S) → (job_numbers E v j).order ≡ j.order
  order_is j = refl

  pub rank_is : (j : RingJob S) → (job_numbers E v j).rank ≡ j.rank
  rank_is j = refl

  pub depth_is : (j : RingJob S) → (job_numbers E v j).depth ≡ j.depth
  depth_is j = refl
