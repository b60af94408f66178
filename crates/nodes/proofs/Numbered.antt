-- Children and seed tiles of a job over a ring, by their numbers.
use Rattle.std.proofs.Common.{◌≡◌, ℕ, ◌<◌, ◌≤◌, List, [], map, length, get_or, ℤ, Some, None, Option, Bor, MatchOption, vec_items, vec_len, sym, refl, ap, ◌∙◌, subst}
use Rattle.std.proofs.lemmas.List.{get_or-map, get_or_past, length-map}
use Rattle.std.specs.Option.{option_copied}
use Rattle.std.specs.Slice.{IsItemAt}
use Rattle.exact.specs.JobNumbers.{PlacedNumbers, TileNumbers, JobNumbers}
use Rattle.chains.specs.Addresses.{child_entries, no_entry}
use Rattle.job_rows.specs.declared.Placed.{Placed}
use Rattle.job_rows.specs.declared.Tile.{Tile}
use Rattle.job_rows.specs.Shapes.{placed_with, tile_with, numbers_with}
use Rattle.ring_jobs.specs.declared.job.RingJob.{RingJob}

module _ {S : Type 0} (listed : S → List ℤ) (j : RingJob S) where
  abbrev N : JobNumbers
  N = numbers_with listed j.order j.rank j.book j.depth (vec_items j.seeds)

  -- n and m are the lengths as the code has them
  pub children_are : (t n : ℕ) (x : Tile S) → n ≡ vec_len j.book.tiles → t < n → x ≡ get_or (vec_items j.book.tiles) t x →
      child_entries N t ≡ map (placed_with listed) (vec_items x.children)
  children_are t n x l h k = ap (λ (y : TileNumbers). y.children) (get_or-map (tile_with listed) (vec_items j.book.tiles) t x _ (subst (◌<◌ t) (l ∙ j.book.tiles.ok.0) h) ∙ ap (tile_with listed) (sym k))

  pub no_children : (t n : ℕ) → n ≡ vec_len j.book.tiles → n ≤ t → child_entries N t ≡ []
  no_children t n l h = ap (λ (y : TileNumbers). y.children) (get_or_past (map (tile_with listed) (vec_items j.book.tiles)) t _ (subst (λ m. m ≤ t) (l ∙ j.book.tiles.ok.0 ∙ sym (length-map (vec_items j.book.tiles) (tile_with listed))) h))

  pub seeds_are : N.seeds ≡ map (placed_with listed) (vec_items j.seeds)
  seeds_are = refl

  pub depth_is : N.depth ≡ j.depth
  depth_is = refl

-- an entry of a list of placed tiles
module _ {S : Type 0} (listed : S → List ℤ) (entries : List PlacedNumbers) (ps : List (Placed S)) (e : entries ≡ map (placed_with listed) ps) where
  pub entry_is : (k : ℕ) (x : Placed S) → k < length ps → x ≡ get_or ps k x → (k < length entries) × (get_or entries k no_entry ≡ placed_with listed x)
  entry_is k x h i = (subst (λ l. k < length l) (sym e) (subst (◌<◌ k) (sym (length-map ps (placed_with listed))) h), ap (λ l. get_or l k no_entry) e ∙ get_or-map (placed_with listed) ps k x no_entry h ∙ ap (placed_with listed) (sym i))

  pub entry_past : (k : ℕ) → length ps ≤ k → length entries ≤ k
  entry_past k h = subst (λ l. length l ≤ k) (sym e) (subst (λ n. n ≤ k) (sym (length-map ps (placed_with listed))) h)

  -- what `get` lends, copied
  pub entry_copied : (k : ℕ) (r : Option (Bor (Placed S))) → IsItemAt ps k r → MatchOption (option_copied r) (length entries ≤ k) (λ c. (k < length entries) × (get_or entries k no_entry ≡ placed_with listed c))
  entry_copied k None h = entry_past k h.3
  entry_copied k (Some x) h = entry_is k x.now h.3.0 h.1
