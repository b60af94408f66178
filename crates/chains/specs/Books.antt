-- A rule book over an exact ring: labels of edges, and tiles with their children.
use Rattle.std.specs.Prelude.{ℕ, Bool, false, List, [], map, slice_index_or}
use Rattle.exact.specs.Cyclotomic.{Cyclotomic}
use Rattle.exact.specs.JobNumbers.{Part, Step, LabelNumbers, PlacedNumbers, TileNumbers, JobNumbers}

-- An edge label has a length and is arrowed or plain. Its subdivision is what an edge of it becomes when inflated.
pub record Label (E : Cyclotomic) : Type 0 where
  pub arrowed : Bool
  pub length : E.Elem
  pub subdivision : List Part

-- A tile by its number, mirrored first where the mark says so, then turned by so many n-ths, then brought to a place.
pub record Placement (E : Cyclotomic) : Type 0 where
  pub tile : ℕ
  pub turn : ℕ
  pub mirrored : Bool
  pub place : E.Elem

-- A tile is an outline, steps from 0, with the children that it is cut into when inflated.
pub record Tile (E : Cyclotomic) : Type 0 where
  pub outline : List Step
  pub children : List (Placement E)

-- Labels and tiles are numbered from 0. Inflating multiplies by the factor, F.
pub record Book (E : Cyclotomic) : Type 0 where
  pub factor : E.Elem
  pub labels : List (Label E)
  pub tiles : List (Tile E)

-- Beyond the last label stands a plain one with no length and no parts, beyond the last tile one with no steps and no children.
abbrev pub label_at : {E : Cyclotomic} → Book E → ℕ → Label E
label_at {E} B e = slice_index_or B.labels e (record { arrowed = false; length = E.zero; subdivision = [] })

abbrev pub tile_at : {E : Cyclotomic} → Book E → ℕ → Tile E
tile_at B t = slice_index_or B.tiles t (record { outline = []; children = [] })

-- What a job's numbers stand for over a ring: a list of coefficients is an element.
abbrev pub label_of : (E : Cyclotomic) → LabelNumbers → Label E
label_of E l = record { arrowed = l.arrowed; length = E.of l.length; subdivision = l.subdivision }

abbrev pub placement_of : (E : Cyclotomic) → PlacedNumbers → Placement E
placement_of E p = record { tile = p.tile; turn = p.turn; mirrored = p.mirrored; place = E.of p.place }

abbrev pub tile_of : (E : Cyclotomic) → TileNumbers → Tile E
tile_of E t = record { outline = t.outline; children = map (placement_of E) t.children }

unfoldable pub book_of : (E : Cyclotomic) → JobNumbers → Book E
book_of E N = record { factor = E.of N.factor; labels = map (label_of E) N.labels; tiles = map (tile_of E) N.tiles }

unfoldable pub seeds_of : (E : Cyclotomic) → JobNumbers → List (Placement E)
seeds_of E N = map (placement_of E) N.seeds
