-- What the rows of the code stand for over an exact ring, where `value` says what a ring value stands for.
use Rattle.std.specs.Prelude.{Bool, true, false, List, map, ℤ, pos, negsuc, vec_items}
use Rattle.exact.specs.Cyclotomic.{Cyclotomic}
use Rattle.chains.specs.Counts as counts
use Rattle.chains.specs.Books as books
use Rattle.chains.specs.Edges as chains
use Rattle.edges.specs.declared.rows.Edge.{Edge}
use Rattle.edges.specs.declared.rows.Counted.{Counted}
use Rattle.job_rows.specs.Shapes.{part_of, step_of}
use Rattle.job_rows.specs.declared.Placed.{Placed}
use Rattle.job_rows.specs.declared.Label.{Label}
use Rattle.job_rows.specs.declared.Tile.{Tile}
use Rattle.job_rows.specs.declared.Book.{Book}

-- the count of an edge that is taken back is -1, else +1
abbrev pub count_of : Bool → ℤ
count_of true = negsuc 0
count_of false = pos 1

module _ {S : Type 0} (E : Cyclotomic) (value : S → E.Elem) where
  abbrev pub edge_view : Edge S → chains.Edge E
  edge_view x = record { label = x.label; direction = x.direction; start = value x.start }

  abbrev pub counted_view : Counted S → counts.Counted (chains.Edge E)
  counted_view x = record { what = edge_view x.edge; count = count_of x.back }

  abbrev pub chain_view : List (Counted S) → chains.Chain E
  chain_view xs = map counted_view xs

  abbrev pub placement_view : Placed S → books.Placement E
  placement_view x = record { tile = x.tile; turn = x.turn; mirrored = x.mirrored; place = value x.place }

  abbrev pub label_view : Label S → books.Label E
  label_view x = record { arrowed = x.arrowed; length = value x.length; subdivision = map part_of (vec_items x.subdivision) }

  abbrev pub tile_view : Tile S → books.Tile E
  tile_view x = record { outline = map step_of (vec_items x.outline); children = map placement_view (vec_items x.children) }

  unfoldable pub book_view : Book S → books.Book E
  book_view b = record { factor = value b.factor; labels = map label_view (vec_items b.labels); tiles = map tile_view (vec_items b.tiles) }
