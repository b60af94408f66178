-- The numbers of a job over a ring.
use Rattle.std.specs.Prelude.{◌≡◌, List, ℤ, vec_items}
use Rattle.exact.specs.Cyclotomic.{Cyclotomic}
use Rattle.exact.specs.JobNumbers.{LabelNumbers, PlacedNumbers, TileNumbers, JobNumbers}
use Rattle.rings.specs.Plane.{OnPlane, read_list}
use Rattle.std.specs.List.{AllByRecursion}
use Rattle.job_rows.specs.Shapes.{numbers_with}
use Rattle.ring_jobs.specs.declared.job.RingJob.{RingJob}

-- the job's n and d are the ring's
abbrev pub OfTheRing : Cyclotomic → JobNumbers → Type 0
OfTheRing E N = (N.order ≡ E.n) × (N.rank ≡ E.d)

module _ (E : Cyclotomic) where
  -- the listed elements are on the plane
  abbrev pub ListedOnPlane : List ℤ → Type 0
  ListedOnPlane l = OnPlane E (read_list E l)

  abbrev pub LabelOnPlane : LabelNumbers → Type 0
  LabelOnPlane l = ListedOnPlane l.length

  abbrev pub PlacedOnPlane : PlacedNumbers → Type 0
  PlacedOnPlane p = ListedOnPlane p.place

  abbrev pub TileOnPlane : TileNumbers → Type 0
  TileOnPlane t = AllByRecursion PlacedOnPlane t.children

  module _ {S : Type 0} (value : S → E.Elem) where
    abbrev pub coefficients : S → List ℤ
    coefficients z = E.list (value z)

    -- the coefficients are those of the exact elements
    abbrev pub job_numbers : RingJob S → JobNumbers
    job_numbers j = numbers_with coefficients j.order j.rank j.book j.depth (vec_items j.seeds)
