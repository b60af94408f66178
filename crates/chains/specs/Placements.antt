-- What a placement does to points, directions, counts and chains, and where a placed tile's children lie.
use Rattle.std.specs.Prelude.{ℕ, cond, not, List, map, ℤ, neg_ℤ}
use mathlib.Core.List.{flat_map}
use Rattle.exact.specs.Cyclotomic.{Cyclotomic, power}
use Rattle.chains.specs.Counts.{Counted}
use Rattle.chains.specs.Books.{Book, Placement, tile_at}
use Rattle.chains.specs.Edges.{Edge, Chain, plus_turn, minus_turn, walk}

module _ (E : Cyclotomic) (p : Placement E) where
  -- a point z is brought to P + ζ^k·z or, mirrored, to P + ζ^k·conj z
  unfoldable pub image : E.Elem → E.Elem
  image z = E.add p.place (E.mul (power E p.turn) (cond p.mirrored (E.conj z) z))

  -- a direction j becomes k + j or, mirrored, k - j
  unfoldable pub heading : ℕ → ℕ
  heading j = cond p.mirrored (minus_turn E p.turn j) (plus_turn E p.turn j)

  -- a mirror turns the sign of every count
  unfoldable pub signed : ℤ → ℤ
  signed c = cond p.mirrored (neg_ℤ c) c

  unfoldable pub placed_edge : Edge E → Edge E
  placed_edge x = record { label = x.label; direction = heading x.direction; start = image x.start }

  unfoldable pub placed_entry : Counted (Edge E) → Counted (Edge E)
  placed_entry x = record { what = placed_edge x.what; count = signed x.count }

  unfoldable pub placed : Chain E → Chain E
  placed c = map placed_entry c

module _ (E : Cyclotomic) (B : Book E) where
  -- the placement with F·P for its place P
  unfoldable pub stretched : Placement E → Placement E
  stretched p = record { tile = p.tile; turn = p.turn; mirrored = p.mirrored; place = E.mul B.factor p.place }

  -- Where a child lies under a placed parent: at F·P + ζ^k·v with turn k + k' and its own mark, or,
  -- under a mirrored parent, at F·P + ζ^k·conj v with turn k - k' and the other mark.
  unfoldable pub child_of : Placement E → Placement E → Placement E
  child_of p c = record {
    tile = c.tile;
    turn = heading E p c.turn;
    mirrored = cond p.mirrored (not c.mirrored) c.mirrored;
    place = image E (stretched p) c.place;
  }

  -- the children of a placed tile, placed
  unfoldable pub children_of : Placement E → List (Placement E)
  children_of p = map (child_of p) (tile_at B p.tile).children

  -- a tile's outline, that of a placed tile, and those of several
  unfoldable pub outline : ℕ → Chain E
  outline t = walk E B (tile_at B t).outline E.zero

  unfoldable pub placed_outline : Placement E → Chain E
  placed_outline p = placed E p (outline p.tile)

  unfoldable pub outlines : List (Placement E) → Chain E
  outlines ps = flat_map placed_outline ps
