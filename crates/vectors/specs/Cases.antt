-- Fixed cases: what is computed from the definitions, beside what it must be. Later layers add to the same list.
use Rattle.std.specs.Prelude.{◌≡◌, ℕ, List, [], ◌∷◌, map, ℤ, pos, negsuc, Some, None, Option}
use Rattle.calls.specs.Sheets.{Sheet, start}
use Rattle.calls.specs.Moves.{descending, laying, setting_aside, replayed}
use Rattle.files.specs.Files.{saved}
use Rattle.exact.specs.Models.{gaussian, tenfold}
use Rattle.chains.specs.Books.{book_of}
use Rattle.chains.specs.Edges.{net}
use Rattle.chains.specs.Accepted.{total_sweep}
use Rattle.chains.specs.Frontiers.{laid_outlines, lacking_outlines, seed_outlines}
use Rattle.chains.specs.Examples.{two, four, chair, penrose, one_chair, one_chair_laid, inner_edge}

pub record Case : Type 0 where
  pub found : List ℤ
  pub expected : List ℤ

abbrev pub EveryCaseHolds : List Case → Type 0
EveryCaseHolds [] = Unit {0}
EveryCaseHolds (c ∷ cs) = (c.found ≡ c.expected) × EveryCaseHolds cs

-- φ = (1,0,1,-1) in the ring of ten
abbrev phi : tenfold.Elem
phi = tenfold.of (four (pos 1) (pos 0) (pos 1) (negsuc 0))

-- the file that a sheet writes, if there is one
abbrev pub bytes_of : Option (Sheet gaussian) → List ℤ
bytes_of None = []
bytes_of (Some s) = map pos (saved gaussian one_chair s)

abbrev pub chair_file : List ℕ
chair_file = 1 ∷ 0 ∷ 3 ∷ 1 ∷ 0 ∷ 0 ∷ 0 ∷ 0 ∷ 0 ∷ 0 ∷ 0 ∷ 0 ∷ 0 ∷ 0 ∷ 0 ∷ 0 ∷ 0 ∷ 0 ∷ 1 ∷ 0 ∷ 0 ∷ 0 ∷ 1 ∷ 16 ∷ 0 ∷ []

abbrev pub fixed_cases : List Case
fixed_cases =
    -- φ² = φ + 1
    record { found = tenfold.list (tenfold.mul phi phi); expected = four (pos 2) (pos 0) (pos 1) (negsuc 0) }
    -- 5φ > 8, and 8φ < 13
    ∷ record { found = tenfold.height (tenfold.of (four (pos 0) (negsuc 7) (pos 5) (pos 0))) ∷ []; expected = pos 1 ∷ [] }
    ∷ record { found = tenfold.height (tenfold.of (four (pos 0) (negsuc 12) (pos 8) (pos 0))) ∷ []; expected = negsuc 0 ∷ [] }
    -- the total sweeps of the chair's outline and of Penrose's two
    ∷ record { found = gaussian.list (total_sweep gaussian (book_of gaussian (chair 0 [])) 0); expected = two (pos 0) (pos 12) }
    ∷ record { found = tenfold.list (total_sweep tenfold (book_of tenfold (penrose 0 [])) 0); expected = four (negsuc 0) (pos 2) (pos 0) (pos 2) }
    ∷ record { found = tenfold.list (total_sweep tenfold (book_of tenfold (penrose 0 [])) 1); expected = four (pos 0) (pos 0) (pos 1) (pos 1) }
    -- one chair at 0, depth 1, gone down and one piece laid: the edge [0, 0, (1,1)] over what is laid, over what is pending, and over the seed's inflated outline
    ∷ record {
      found = net gaussian (book_of gaussian one_chair) (laid_outlines gaussian one_chair one_chair_laid) inner_edge
          ∷ net gaussian (book_of gaussian one_chair) (lacking_outlines gaussian one_chair one_chair_laid) inner_edge
          ∷ net gaussian (book_of gaussian one_chair) (seed_outlines gaussian one_chair) inner_edge ∷ [];
      expected = negsuc 0 ∷ pos 1 ∷ pos 0 ∷ [];
    }
    -- the same job after descend, lay, lay, set aside, saved
    ∷ record { found = bytes_of (replayed gaussian one_chair 4096 (descending ∷ laying ∷ laying ∷ setting_aside ∷ []) (start gaussian one_chair)); expected = map pos chair_file }
    ∷ []
