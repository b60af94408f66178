-- A child of a placed tile, by its number.
use Rattle.std.proofs.Common.{◌≡◌, ℕ, ◌<◌, ◌≤◌, Bool, true, false, cond, ◌&&◌, ltb, List, ◌∷◌, length, get_or, IsErrAnd, Ok, Err, Result, sym, refl, ap, ◌∙◌, ap₂, le-ltb, lt-ltb}
use Rattle.std.proofs.lemmas.Bool.{and_parts, false_from_ne_true}
use Rattle.exact.specs.Cyclotomic.{Cyclotomic, CyclotomicLaws}
use Rattle.exact.specs.JobNumbers.{PlacedNumbers, JobNumbers}
use Rattle.chains.specs.Books.{Placement, placement_of, book_of}
use Rattle.chains.specs.Placements.{child_of}
use Rattle.chains.specs.Addresses.{child_entries, child_count, child_tile, no_entry, leads_down, seed_tile, seed_placement, node_placement, child_placement, placement_below}
use Rattle.job_rows.specs.declared.Placed.{Placed}
use Rattle.edges.specs.Views.{placement_view, book_view}
use Rattle.job_rows.specs.Shapes.{placed_with}
use Rattle.ring_jobs.specs.RingJobs.{coefficients, job_numbers}
use Rattle.ring_jobs.specs.declared.job.RingJob.{RingJob}
use Rattle.ring_jobs.proofs.Booked.{book_is}
use Rattle.rings.specs.Plane.{OnPlane}
use Rattle.rings.specs.declared.fault.RingFault.{RingFault}
use Rattle.nodes.specs.OnPlane.{on_plane, kept_child}
use Rattle.nodes.specs.Table.{Entry, there, missing, outside, child_entry, cornered, kept_below, kept_way}
use Rattle.nodes.specs.Views.{fault_entry, entry_of}
use Rattle.nodes.specs.declared.fault.PlaceFault.{PlaceFault}
use Rattle.nodes.specs.declared.fault.PlaceFault.TheVariants.{NoNode, Ring}
use Rattle.nodes.proofs.Testing.{yes_plane}

-- ---- what an entry tells
pub there_means : (E : Cyclotomic) (p q : Placement E) (b : Bool) → there p ≡ cond b (there q) outside → (b ≡ true) × (p ≡ q)
there_means E p q true e = (refl, cc)
there_means E p q false e = cc

pub not_missing : (E : Cyclotomic) (p : Placement E) → missing ≡ there p → ⊥
not_missing E p e = cc

pub fault_means : (E : Cyclotomic) (f : PlaceFault) (q : Placement E) (b : Bool) → fault_entry E f ≡ cond b (there q) outside → (b ≡ false) × (fault_entry E f ≡ outside)
fault_means E NoNode q true e = cc
fault_means E NoNode q false e = cc
fault_means E (Ring f) q true e = cc
fault_means E (Ring f) q false e = (refl, refl)

-- ---- the rows of a job over a ring
module _ {S : Type 0} (E : Cyclotomic) (L : CyclotomicLaws E) (v : S → E.Elem) where
  pub row_placed : (x : PlacedNumbers) (c : Placed S) → x ≡ placed_with (coefficients E v) c → placement_of E x ≡ placement_view E v c
  row_placed x c e = ap (placement_of E) e ∙ (λ i. record { tile = c.tile; turn = c.turn; mirrored = c.mirrored; place = L.of_list (v c.place) i })

  module _ (j : RingJob S) (p : Placement E) (k : ℕ) where
    abbrev N : JobNumbers
    N = job_numbers E v j

    abbrev entry : PlacedNumbers
    entry = get_or (child_entries N p.tile) k no_entry

    pub counted : k < length (child_entries N p.tile) → ltb k (child_count N p.tile) ≡ true
    unfolding child_count
    counted h = lt-ltb _ _ h

    pub uncounted : length (child_entries N p.tile) ≤ k → ltb k (child_count N p.tile) ≡ false
    unfolding child_count
    uncounted h = le-ltb _ _ h

    pub no_child : length (child_entries N p.tile) ≤ k → missing ≡ child_entry E N p k
    unfolding child_entry
    no_child h = sym (ap (λ b. cond b (cond (kept_child E (book_of E N) p (placement_of E entry)) (there (child_placement E N p k)) outside) missing) (uncounted h))

    some_child : k < length (child_entries N p.tile) → child_entry E N p k ≡ cond (kept_child E (book_of E N) p (placement_of E entry)) (there (child_placement E N p k)) outside
    unfolding child_entry
    some_child h = ap (λ b. cond b (cond (kept_child E (book_of E N) p (placement_of E entry)) (there (child_placement E N p k)) outside) missing) (counted h)

    module _ (c : Placed S) (h : k < length (child_entries N p.tile)) (e : entry ≡ placed_with (coefficients E v) c) where
      same_kept : kept_child E (book_view E v j.book) p (placement_view E v c) ≡ kept_child E (book_of E N) p (placement_of E entry)
      same_kept = ap₂ (λ B x. kept_child E B p x) (sym (book_is E L v j)) (sym (row_placed entry c e))

      same_place : child_of E (book_view E v j.book) p (placement_view E v c) ≡ child_placement E N p k
      unfolding child_placement
      same_place = ap₂ (λ B x. child_of E B p x) (sym (book_is E L v j)) (sym (row_placed entry c e))

      pub child_there : (q : Placement E) → q ≡ child_of E (book_view E v j.book) p (placement_view E v c) → kept_child E (book_view E v j.book) p (placement_view E v c) ≡ true →
          there q ≡ child_entry E N p k
      child_there q a b = ap there (a ∙ same_place) ∙ sym (some_child h ∙ ap (λ b. cond b (there (child_placement E N p k)) outside) (sym same_kept ∙ b))

      pub child_outside : (kept_child E (book_view E v j.book) p (placement_view E v c) ≡ true → ⊥) → outside ≡ child_entry E N p k
      child_outside n = sym (some_child h ∙ ap (λ b. cond b (there (child_placement E N p k)) outside) (sym same_kept ∙ false_from_ne_true _ n))

-- the exit of a `?`
pub ring_entry : {S : Type 0} (E : Cyclotomic) (v : S → E.Elem) (r : Result (Placed S) PlaceFault) (f : RingFault) (x : Entry E) → IsErrAnd r (λ y. y ≡ Ring f) → outside ≡ x → entry_of E v r ≡ x
ring_entry E v (Ok p) f x h e = absurd h
ring_entry E v (Err y) f x h e = ap (fault_entry E) h ∙ e

pub fault_entry_of : {S : Type 0} (E : Cyclotomic) (v : S → E.Elem) (r : Result (Placed S) PlaceFault) (f : PlaceFault) (x : Entry E) → IsErrAnd r (λ y. y ≡ f) → fault_entry E f ≡ x → entry_of E v r ≡ x
fault_entry_of E v (Ok p) f x h e = absurd h
fault_entry_of E v (Err y) f x h e = ap (fault_entry E) h ∙ e

pub cornered_fault : (E : Cyclotomic) (N : JobNumbers) (f : PlaceFault) → cornered E N (fault_entry E f) ≡ fault_entry E f
unfolding cornered
cornered_fault E N NoNode = refl
cornered_fault E N (Ring f) = refl

-- ---- down a path
module _ (E : Cyclotomic) (N : JobNumbers) (p : Placement E) (k : ℕ) (path : List ℕ) (down : leads_down N p.tile (k ∷ path) ≡ true) where
  child_is_there : ltb k (child_count N p.tile) ≡ true
  unfolding leads_down
  child_is_there = (and_parts _ _ down).0

  abbrev kept : Bool
  kept = kept_child E (book_of E N) p (placement_of E (get_or (child_entries N p.tile) k no_entry))

  by_kept : child_entry E N p k ≡ cond kept (there (child_placement E N p k)) outside
  unfolding child_entry
  by_kept = ap (λ b. cond b (cond kept (there (child_placement E N p k)) outside) missing) child_is_there

  -- the child is made: the rest of the path goes on from it
  module _ (q : Placement E) (e : there q ≡ child_entry E N p k) where
    made : (kept ≡ true) × (q ≡ child_placement E N p k)
    made = there_means E q (child_placement E N p k) kept (e ∙ by_kept)

    pub kept_on : kept_below E N p (k ∷ path) ≡ kept_below E N q path
    unfolding kept_below
    kept_on = ap (λ b. b && kept_below E N (child_placement E N p k) path) made.0 ∙ sym (ap (λ x. kept_below E N x path) made.1)

    pub placed_on : placement_below E N p (k ∷ path) ≡ placement_below E N q path
    unfolding placement_below
    placed_on = sym (ap (λ x. placement_below E N x path) made.1)

    pub leads_on_from : leads_down N q.tile path ≡ true
    unfolding leads_down child_tile child_placement child_of
    leads_on_from = ap (λ (x : Placement E). leads_down N x.tile path) made.1 ∙ (and_parts _ _ down).1

  -- the child is off the plane, and so is all that lies below
  pub off_below : (f : PlaceFault) → fault_entry E f ≡ child_entry E N p k → (kept_below E N p (k ∷ path) ≡ false) × (fault_entry E f ≡ outside)
  unfolding kept_below
  off_below f e = let h = fault_means E f (child_placement E N p k) kept (e ∙ by_kept) in (ap (λ b. b && kept_below E N (child_placement E N p k) path) h.0, h.1)

-- ---- the seed tile
module _ {S : Type 0} (E : Cyclotomic) (L : CyclotomicLaws E) (v : S → E.Elem) (bounded : (z : S) → OnPlane E (v z)) (N : JobNumbers) (s : ℕ) (path : List ℕ) (c : Placed S) (e : get_or N.seeds s no_entry ≡ placed_with (coefficients E v) c) where
  pub seed_placed : seed_placement E N s ≡ placement_view E v c
  unfolding seed_placement
  seed_placed = row_placed E L v (get_or N.seeds s no_entry) c e

  pub seed_way : kept_way E N (record { seed = s; path = path }) ≡ kept_below E N (placement_view E v c) path
  unfolding kept_way
  seed_way =
      ap (λ b. b && kept_below E N (seed_placement E N s) path) (ap (λ (x : Placement E). on_plane E x.place) seed_placed ∙ yes_plane E (v c.place) (bounded c.place))
      ∙ ap (λ x. kept_below E N x path) seed_placed

  pub seed_node : node_placement E N (record { seed = s; path = path }) ≡ placement_below E N (placement_view E v c) path
  unfolding node_placement
  seed_node = ap (λ x. placement_below E N x path) seed_placed

  pub seed_leads : leads_down N (seed_tile N s) path ≡ true → leads_down N c.tile path ≡ true
  unfolding seed_tile
  seed_leads h = sym (ap (λ (x : PlacedNumbers). leads_down N x.tile path) e) ∙ h
