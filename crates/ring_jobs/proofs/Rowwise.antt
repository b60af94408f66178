-- Rows of a job as they are read over a ring, and lists of them.
use Rattle.std.proofs.Common.{◌≡◌, Bool, List, map, length, ℤ, sym, ap, ◌∙◌}
use Rattle.std.proofs.lemmas.List.{length-map}
use Rattle.exact.specs.JobNumbers.{PlacedNumbers, TileNumbers, LabelNumbers, Part, Step}

-- two lists that stand for the same are as long
pub as_long : {X Y Z W : Type 0} (f : X → W) (g : Y → Z) (h : Z → W) (xs : List X) (ys : List Y) → map f xs ≡ map h (map g ys) → length xs ≡ length ys
as_long f g h xs ys e = sym (length-map xs f) ∙ ap length e ∙ length-map (map g ys) h ∙ length-map ys g

pub tile_same : (os os' : List Step) (cs cs' : List PlacedNumbers) → os ≡ os' → cs ≡ cs' → ◌≡◌ {A = TileNumbers} (record { outline = os; children = cs }) (record { outline = os'; children = cs' })
tile_same os os' cs cs' e f = λ i. record { outline = e i; children = f i }

pub label_same : (a : Bool) (l l' : List ℤ) (ps ps' : List Part) → l ≡ l' → ps ≡ ps' → ◌≡◌ {A = LabelNumbers} (record { arrowed = a; length = l; subdivision = ps }) (record { arrowed = a; length = l'; subdivision = ps' })
label_same a l l' ps ps' e f = λ i. record { arrowed = a; length = e i; subdivision = f i }
