-- The front of a job: what its first lines say. Which letter may come next, and which numbers may follow it.
use Rattle.std.specs.Prelude.{◌≡◌, ℕ, ◌+◌, ◌<◌, ◌≤◌, Bool, true, ◌⊎◌, List, [], ◌∷◌, ◌++◌, map, length, ℤ, pos, is_some, Some, None, Option}
use Rattle.std.specs.Option.{unwrap_or}
use Rattle.std.specs.List.{flat_map}
use Rattle.exact.specs.JobNumbers.{JobNumbers, LabelNumbers, TileNumbers, PlacedNumbers, Part, Step}
use Rattle.lines.specs.Letters.{Letter, letter_R, letter_I, letter_L, letter_S, letter_T, letter_C, letter_D, letter_P}
use Rattle.lines.specs.Lines.{Line}
use Rattle.job_rows.specs.Limits.{most_children}
use Rattle.jobs.specs.Limits.{Ring, most_labels, most_tiles, most_depth, most_seeds}
use Rattle.jobs.specs.Ranges.{Element, PlacedFits, SeedFits, SubdivisionFits, OutlineFits}
use Rattle.jobs.specs.Spelled.{label_numbers, part_numbers, step_numbers, placed_numbers}

-- what an L line says
pub record Head : Type 0 where
  pub arrowed : Bool
  pub length : List ℤ

-- order and rank are 0 before the R line. The tile whose children are being read stands in outline and children, and
-- joins the tiles at the next T line or at the D line
pub record Front : Type 0 where
  pub order : ℕ
  pub rank : ℕ
  pub factor : List ℤ
  pub heads : List Head
  pub subdivisions : List (List Part)
  pub tiles : List TileNumbers
  pub outline : List Step
  pub children : List PlacedNumbers
  pub depth : Option ℕ
  pub seeds : List PlacedNumbers

-- before the first line
abbrev pub nothing : Front
nothing = record { order = 0; rank = 0; factor = []; heads = []; subdivisions = []; tiles = []; outline = []; children = []; depth = None; seeds = [] }

abbrev pub kinds : Front → List Bool
kinds f = map (λ (h : Head). h.arrowed) f.heads

-- which letter may come next
abbrev pub Place : Front → Letter → Type 0
Place f letter_R = f.order ≡ 0
Place f letter_I = (0 < f.order) × (length f.factor ≡ 0)
Place f letter_L = (0 < length f.factor) × (length f.subdivisions ≡ 0) × (length f.heads < most_labels)
Place f letter_S = length f.subdivisions < length f.heads
-- each label has its subdivision; it is the first tile, or the tile before it has a child
Place f letter_T = (0 < length f.heads) × (length f.subdivisions ≡ length f.heads)
    × (((length f.outline ≡ 0) × (length f.tiles ≡ 0)) ⊎ ((0 < length f.children) × (length f.tiles + 1 < most_tiles)))
Place f letter_C = (0 < length f.outline) × (length f.children < most_children)
Place f letter_D = 0 < length f.children
Place f letter_P = (is_some f.depth ≡ true) × (length f.seeds < most_seeds)

-- where the text may end
abbrev pub Complete : Front → Type 0
Complete f = 0 < length f.seeds

-- the open tile, if there is one
abbrev pub opened : List Step → List PlacedNumbers → List TileNumbers
opened [] cs = []
opened (s ∷ ss) cs = record { outline = s ∷ ss; children = cs } ∷ []

abbrev pub with_ring : Front → ℕ → ℕ → Front
with_ring f n d = record { order = n; rank = d; factor = f.factor; heads = f.heads; subdivisions = f.subdivisions; tiles = f.tiles; outline = f.outline; children = f.children; depth = f.depth; seeds = f.seeds }

abbrev pub with_factor : Front → List ℤ → Front
with_factor f zs = record { order = f.order; rank = f.rank; factor = zs; heads = f.heads; subdivisions = f.subdivisions; tiles = f.tiles; outline = f.outline; children = f.children; depth = f.depth; seeds = f.seeds }

abbrev pub with_label : Front → Head → Front
with_label f h = record { order = f.order; rank = f.rank; factor = f.factor; heads = f.heads ++ h ∷ []; subdivisions = f.subdivisions; tiles = f.tiles; outline = f.outline; children = f.children; depth = f.depth; seeds = f.seeds }

abbrev pub with_subdivision : Front → List Part → Front
with_subdivision f ps = record { order = f.order; rank = f.rank; factor = f.factor; heads = f.heads; subdivisions = f.subdivisions ++ ps ∷ []; tiles = f.tiles; outline = f.outline; children = f.children; depth = f.depth; seeds = f.seeds }

-- the open tile joins the tiles
abbrev pub closed : Front → Front
closed f = record { order = f.order; rank = f.rank; factor = f.factor; heads = f.heads; subdivisions = f.subdivisions; tiles = f.tiles ++ opened f.outline f.children; outline = []; children = []; depth = f.depth; seeds = f.seeds }

abbrev pub with_tile : Front → List Step → Front
with_tile f ss = record { order = f.order; rank = f.rank; factor = f.factor; heads = f.heads; subdivisions = f.subdivisions; tiles = f.tiles ++ opened f.outline f.children; outline = ss; children = []; depth = f.depth; seeds = f.seeds }

abbrev pub with_child : Front → PlacedNumbers → Front
with_child f p = record { order = f.order; rank = f.rank; factor = f.factor; heads = f.heads; subdivisions = f.subdivisions; tiles = f.tiles; outline = f.outline; children = f.children ++ p ∷ []; depth = f.depth; seeds = f.seeds }

abbrev pub with_depth : Front → ℕ → Front
with_depth f n = record { order = f.order; rank = f.rank; factor = f.factor; heads = f.heads; subdivisions = f.subdivisions; tiles = f.tiles ++ opened f.outline f.children; outline = []; children = []; depth = Some n; seeds = f.seeds }

abbrev pub with_seed : Front → PlacedNumbers → Front
with_seed f p = record { order = f.order; rank = f.rank; factor = f.factor; heads = f.heads; subdivisions = f.subdivisions; tiles = f.tiles; outline = f.outline; children = f.children; depth = f.depth; seeds = f.seeds ++ p ∷ [] }

-- the numbers zs fit after the letter, and g is the front with that line
abbrev pub Takes : Front → Letter → List ℤ → Front → Type 0
Takes f letter_R zs g = (n : ℕ) × (d : ℕ) × Ring n d × (zs ≡ pos n ∷ []) × (g ≡ with_ring f n d)
Takes f letter_I zs g = Element f.rank zs × (g ≡ with_factor f zs)
Takes f letter_L zs g = (h : Head) × Element f.rank h.length × (zs ≡ label_numbers h.arrowed h.length) × (g ≡ with_label f h)
Takes f letter_S zs g = (ps : List Part) × SubdivisionFits (kinds f) ps × (zs ≡ flat_map part_numbers ps) × (g ≡ with_subdivision f ps)
Takes f letter_T zs g = (ss : List Step) × OutlineFits (kinds f) f.order ss × (zs ≡ flat_map step_numbers ss) × (g ≡ with_tile f ss)
Takes f letter_C zs g = (p : PlacedNumbers) × PlacedFits f.order f.rank p × (zs ≡ placed_numbers p) × (g ≡ with_child f p)
Takes f letter_D zs g = (n : ℕ) × (n ≤ most_depth) × (zs ≡ pos n ∷ []) × (g ≡ with_depth f n)
Takes f letter_P zs g = (p : PlacedNumbers) × SeedFits (length f.tiles) f.order f.rank p × (zs ≡ placed_numbers p) × (g ≡ with_seed f p)

-- the line comes next, and leads from f to g
abbrev pub Steps : Front → Line → Front → Type 0
Steps f l g = Place f l.letter × Takes f l.letter l.numbers g

-- the lines, one after the other, lead from f to g
abbrev pub Leads : Front → List Line → Front → Type 0
Leads f [] g = f ≡ g
Leads f (l ∷ ls) g = (h : Front) × Steps f l h × Leads h ls g

-- L lines with their S lines, as far as there are S lines
abbrev pub labelled : List Head → List (List Part) → List LabelNumbers
labelled [] pss = []
labelled (h ∷ hs) [] = record { arrowed = h.arrowed; length = h.length; subdivision = [] } ∷ labelled hs []
labelled (h ∷ hs) (ps ∷ pss) = record { arrowed = h.arrowed; length = h.length; subdivision = ps } ∷ labelled hs pss

-- the job that a front says, with depth 0 where it has none
abbrev pub numbers_of : ℕ → ℕ → List ℤ → List Head → List (List Part) → List TileNumbers → ℕ → List PlacedNumbers → JobNumbers
numbers_of n d fs hs pss ts depth ps = record { order = n; rank = d; factor = fs; labels = labelled hs pss; tiles = ts; depth = depth; seeds = ps }

abbrev pub job_of : Front → JobNumbers
job_of f = numbers_of f.order f.rank f.factor f.heads f.subdivisions f.tiles (unwrap_or f.depth 0) f.seeds
