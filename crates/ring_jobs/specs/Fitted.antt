-- A job whose lists of coefficients are each put through a function; and so cut or filled up with 0 to the d coefficients of a ring.
use Rattle.std.specs.Prelude.{ℕ, List, map, ℤ}
use Rattle.exact.specs.JobNumbers.{LabelNumbers, PlacedNumbers, TileNumbers, JobNumbers}
use Rattle.rings.specs.Plane.{fitted_from}

module _ (f : List ℤ → List ℤ) where
  abbrev pub relisted_label : LabelNumbers → LabelNumbers
  relisted_label l = record { arrowed = l.arrowed; length = f l.length; subdivision = l.subdivision }

  abbrev pub relisted_placed : PlacedNumbers → PlacedNumbers
  relisted_placed p = record { tile = p.tile; turn = p.turn; mirrored = p.mirrored; place = f p.place }

  abbrev pub relisted_tile : TileNumbers → TileNumbers
  relisted_tile t = record { outline = t.outline; children = map relisted_placed t.children }

  unfoldable pub relisted : JobNumbers → JobNumbers
  relisted N = record {
    order = N.order;
    rank = N.rank;
    factor = f N.factor;
    labels = map relisted_label N.labels;
    tiles = map relisted_tile N.tiles;
    depth = N.depth;
    seeds = map relisted_placed N.seeds;
  }

-- a list that has d coefficients already is left as it is
abbrev pub fitted : ℕ → List ℤ → List ℤ
fitted d l = fitted_from 0 d l

abbrev pub fitted_job : ℕ → JobNumbers → JobNumbers
fitted_job d N = relisted (fitted d) N
