-- A job as plain numbers, with no ring: what a job text says. An exact ring gives it its meaning.
-- (That these records form sets, in the sense of homotopy, is derived for proofs that rest on a truncated fact.)
use Rattle.std.specs.Prelude.{ℕ, Bool, List, ℤ}

-- a label with a sense, forward or backward: a part of a subdivision
pub record Part : Type 0 where
  pub label : ℕ
  pub forward : Bool
  deriving IsSet as Part-set

-- a label with a sense and a direction, in n-ths of a turn: a step of an outline
pub record Step : Type 0 where
  pub label : ℕ
  pub forward : Bool
  pub direction : ℕ
  deriving IsSet as Step-set

-- an edge label: arrowed or plain, its length as coefficients, and what it becomes when inflated
pub record LabelNumbers : Type 0 where
  pub arrowed : Bool
  pub length : List ℤ
  pub subdivision : List Part
  deriving IsSet as LabelNumbers-set

-- a tile turned, mirrored first where the mark says so, and brought to a place: a child or a seed tile
pub record PlacedNumbers : Type 0 where
  pub tile : ℕ
  pub turn : ℕ
  pub mirrored : Bool
  pub place : List ℤ
  deriving IsSet as PlacedNumbers-set

-- a tile: its outline from 0, and its children when it is inflated
pub record TileNumbers : Type 0 where
  pub outline : List Step
  pub children : List PlacedNumbers
  deriving IsSet as TileNumbers-set

-- order and rank are the ring's n and d; labels, tiles and seed tiles are numbered from 0
pub record JobNumbers : Type 0 where
  pub order : ℕ
  pub rank : ℕ
  pub factor : List ℤ
  pub labels : List LabelNumbers
  pub tiles : List TileNumbers
  pub depth : ℕ
  pub seeds : List PlacedNumbers
  deriving IsSet as JobNumbers-set
