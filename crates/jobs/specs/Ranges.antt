-- The ranges that the numbers of a job keep.
use Rattle.std.specs.Prelude.{◌≡◌, ℕ, ◌<◌, ◌≤◌, Bool, true, false, List, map, length, ℤ, slice_index_or, unsigned_abs}
use Rattle.std.specs.List.{AllByRecursion}
use Rattle.exact.specs.JobNumbers.{JobNumbers, LabelNumbers, TileNumbers, PlacedNumbers, Part, Step}
use Rattle.job_rows.specs.Limits.{most_parts, most_steps, most_children}
use Rattle.jobs.specs.Limits.{Ring, most_size, most_labels, least_steps, most_tiles, most_depth, most_seeds}

-- an element of a ring of rank d: d coefficients, none above the limit in size
abbrev pub Coefficient : ℤ → Type 0
Coefficient z = unsigned_abs z ≤ most_size

abbrev pub Element : ℕ → List ℤ → Type 0
Element d zs = (length zs ≡ d) × AllByRecursion Coefficient zs

-- kinds has true for each arrowed label and false for each plain one. A sense fits a label that is there; a plain
-- label has only the forward sense
abbrev pub Sensed : List Bool → ℕ → Bool → Type 0
Sensed kinds label forward = (label < length kinds) × (slice_index_or kinds label true ≡ false → forward ≡ true)

abbrev pub PartFits : List Bool → Part → Type 0
PartFits kinds p = Sensed kinds p.label p.forward

abbrev pub StepFits : List Bool → ℕ → Step → Type 0
StepFits kinds n s = Sensed kinds s.label s.forward × (s.direction < n)

-- n and d are the ring's order and rank; which tile is meant is judged apart
abbrev pub PlacedFits : ℕ → ℕ → PlacedNumbers → Type 0
PlacedFits n d p = (p.turn < n) × Element d p.place

abbrev pub SeedFits : ℕ → ℕ → ℕ → PlacedNumbers → Type 0
SeedFits tiles n d p = (p.tile < tiles) × PlacedFits n d p

abbrev pub SubdivisionFits : List Bool → List Part → Type 0
SubdivisionFits kinds ps = (0 < length ps) × (length ps ≤ most_parts) × AllByRecursion (PartFits kinds) ps

abbrev pub OutlineFits : List Bool → ℕ → List Step → Type 0
OutlineFits kinds n ss = (least_steps ≤ length ss) × (length ss ≤ most_steps) × AllByRecursion (StepFits kinds n) ss

abbrev pub ChildrenFit : ℕ → ℕ → List PlacedNumbers → Type 0
ChildrenFit n d cs = (0 < length cs) × (length cs ≤ most_children) × AllByRecursion (PlacedFits n d) cs

abbrev pub LabelFits : List Bool → ℕ → LabelNumbers → Type 0
LabelFits kinds d l = Element d l.length × SubdivisionFits kinds l.subdivision

abbrev pub TileFits : List Bool → ℕ → ℕ → TileNumbers → Type 0
TileFits kinds n d t = OutlineFits kinds n t.outline × ChildrenFit n d t.children

abbrev pub kinds_of : List LabelNumbers → List Bool
kinds_of ls = map (λ (l : LabelNumbers). l.arrowed) ls

-- all ranges but that of the tiles that children name
pub record Shaped (j : JobNumbers) : Type 0 where
  pub ring : Ring j.order j.rank
  pub factor : Element j.rank j.factor
  pub some_labels : 0 < length j.labels
  pub few_labels : length j.labels ≤ most_labels
  pub labels : AllByRecursion (LabelFits (kinds_of j.labels) j.rank) j.labels
  pub some_tiles : 0 < length j.tiles
  pub few_tiles : length j.tiles ≤ most_tiles
  pub tiles : AllByRecursion (TileFits (kinds_of j.labels) j.order j.rank) j.tiles
  pub depth : j.depth ≤ most_depth
  pub some_seeds : 0 < length j.seeds
  pub few_seeds : length j.seeds ≤ most_seeds
  pub seeds : AllByRecursion (SeedFits (length j.tiles) j.order j.rank) j.seeds

-- each child names one of so many tiles
abbrev pub ChildrenNamed : ℕ → TileNumbers → Type 0
ChildrenNamed tiles t = AllByRecursion (λ (p : PlacedNumbers). p.tile < tiles) t.children

-- all ranges of a job
pub record InRange (j : JobNumbers) : Type 0 where
  pub shaped : Shaped j
  pub named : AllByRecursion (ChildrenNamed (length j.tiles)) j.tiles
