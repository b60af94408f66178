-- The records of a run can all be read: they are within the limits, and their pieces lie on the plane with all their corners.
use Rattle.std.proofs.Common.{◌≡◌, ℕ, ◌<◌, ◌≤◌, true, List, [], ◌∷◌, length, get_or, Some, None, Option, sym, ap, ◌∙◌, subst, arith}
use Rattle.std.specs.List.{AllByRecursion}
use Rattle.std.proofs.lemmas.Bool.{and_parts}
use Rattle.exact.specs.Cyclotomic.{Cyclotomic}
use Rattle.exact.specs.JobNumbers.{JobNumbers}
use Rattle.rings.specs.Plane.{OnPlane}
use Rattle.chains.specs.Books.{Placement, book_of, placement_of}
use Rattle.chains.specs.Placements.{stretched, child_of}
use Rattle.chains.specs.Addresses.{Address, level, no_entry, child_entries, child_placement, seed_placement, placement_below, node_placement}
use Rattle.chains.proofs.Lists.{all_append}
use Rattle.chains.proofs.Nodes.{node_placement_tile}
use Rattle.jobs.specs.Limits.{most_depth}
use Rattle.ring_jobs.specs.Shapes.{Branching}
use Rattle.nodes.specs.OnPlane.{kept_corners}
use Rattle.nodes.specs.Table.{there, table, kept_below, kept_way, node_on_plane}
use Rattle.nodes.proofs.Tabled.{table_there}
use Rattle.nodes.proofs.Testing.{plane_yes, child_yes}
use Rattle.calls.specs.Records.{Record}
use Rattle.calls.specs.Sheets.{Sheet, Cursor, start}
use Rattle.calls.specs.Moves.{Move}
use Rattle.calls.specs.Fits.{Fits}
use Rattle.calls.proofs.Families.{named}
use Rattle.calls.proofs.Moving.{Moved, descends, lays, sets_aside, Replayed, done, on}
use Rattle.files.proofs.Kept.{Kept, Within, Shallow, kept_start, kept_move}

module _ (E : Cyclotomic) (N : JobNumbers) where
  -- a laid piece whose own corners are on the plane
  abbrev pub CornersKept : Option (Placement E) → Type 0
  CornersKept None = Unit {0}
  CornersKept (Some p) = kept_corners E (book_of E N) p ≡ true

  abbrev pub Readable : Record E → Type 0
  Readable r = Fits E N r × CornersKept r.laid

  -- ---- a node on the plane has its place on it
  below_on_plane : (p : Placement E) (path : List ℕ) → OnPlane E p.place → kept_below E N p path ≡ true → OnPlane E (placement_below E N p path).place
  unfolding kept_below placement_below child_placement child_of
  below_on_plane p [] h k = h
  below_on_plane p (i ∷ path) h k =
      let a = and_parts _ _ k in
      let c = child_yes E (book_of E N) p (placement_of E (get_or (child_entries N p.tile) i no_entry)) a.0 in
      below_on_plane (child_placement E N p i) path c.1.2 a.1

  node_place : (a : Address) → kept_way E N a ≡ true → OnPlane E (node_placement E N a).place
  unfolding kept_way node_placement
  node_place a h = let k = and_parts _ _ h in below_on_plane (seed_placement E N a.seed) a.path (plane_yes E _ k.0) k.1

  pub place_there : (a : Address) (p : Placement E) → table E N a ≡ there p → OnPlane E p.place
  unfolding node_on_plane
  place_there a p e =
      let t = table_there E N a p e in
      subst (λ (q : Placement E). OnPlane E q.place) (sym t.2) (node_place a (and_parts _ _ t.1).0)

  module _ (B : Branching N) where
    -- ---- what lay records
    laid_readable : (d : ℕ) (a : Address) (p : Placement E) → d ≤ level a → level a ≡ N.depth → table E N a ≡ there p → Readable (record { descents = d; laid = Some p })
    unfolding node_on_plane
    laid_readable d a p h l e =
        let t = table_there E N a p e in
        let k = and_parts _ _ t.1 in
        let low = B.shallow in (
          (((omega (arith, h, l, low)), subst (λ n. n < length N.tiles) (sym (ap (λ (q : Placement E). q.tile) t.2 ∙ node_placement_tile E N a)) (named N B a)), place_there a p e),
          subst (λ q. kept_corners E (book_of E N) q ≡ true) (sym t.2) k.1,
        )

    aside_readable : (d : ℕ) (a : Address) → d ≤ level a → level a ≤ N.depth → Readable (record { descents = d; laid = None })
    aside_readable d a h l = let low = B.shallow in (((omega (arith, h, l, low), tt), tt), tt)

    within_at : (s : Sheet E) (c : Cursor) → s.cursor ≡ Some c → Within s.cursor → c.descents ≤ level c.node
    within_at s c e h = subst Within e h

    shallow_at : (s : Sheet E) (c : Cursor) → s.cursor ≡ Some c → Shallow N.depth s.cursor → level c.node ≤ N.depth
    shallow_at s c e h = subst (Shallow N.depth) e h

    readable_moved : (places : ℕ) (m : Move) (s t : Sheet E) → Moved E N places m s t → Kept E N places s → AllByRecursion Readable s.records → AllByRecursion Readable t.records
    readable_moved places _ _ _ (descends s c e below) k h = h
    readable_moved places _ _ _ (lays s c p e at room f) k h = all_append Readable s.records _ h (laid_readable c.descents c.node p (within_at s c e k.within) at f, tt)
    readable_moved places _ _ _ (sets_aside s c e room) k h = all_append Readable s.records _ h (aside_readable c.descents c.node (within_at s c e k.within) (shallow_at s c e k.shallow), tt)

    readable_replayed : (places : ℕ) (ms : List Move) (s t : Sheet E) → Replayed E N places ms s t → Kept E N places s → AllByRecursion Readable s.records → AllByRecursion Readable t.records
    readable_replayed places _ _ _ (done s) k h = h
    readable_replayed places _ _ _ (on m ms s t u g r) k h = readable_replayed places ms t u r (kept_move E N B.shallow places m s t g k) (readable_moved places m s t g k h)

    pub readable : (places : ℕ) (ms : List Move) (t : Sheet E) → Replayed E N places ms (start E N) t → AllByRecursion Readable t.records
    unfolding start
    readable places ms t r = readable_replayed places ms (start E N) t r (kept_start E N places) tt
