-- Children that name a tile beyond the last.
use Rattle.std.proofs.Common.{◌≡◌, ℕ, suc, ◌+◌, ◌<◌, Bool, true, false, cond, leb, nat_le, position, List, [], ◌∷◌, ◌++◌, map, length, get_or, drop, Some, None, vec_items, Option, ℤ, sym, refl, ap, ◌∙◌, arith}
use Rattle.std.specs.Global.{Vec}
use Rattle.job_rows.specs.declared.Placed.{Placed}
use Rattle.job_rows.specs.declared.Tile.{Tile}
use Rattle.jobs.specs.Rows.{placed_of, tile_of}
use Rattle.std.specs.List.{flat_map, AllByRecursion, position_from}
use Rattle.std.specs.Option.{option_map}
use Rattle.std.proofs.lemmas.Iterator.Adapters.{position_from-zero}
use Rattle.std.proofs.lemmas.List.{length-append, length-map, drop_more}
use Rattle.std.proofs.lemmas.Bool.Decides.{nat_tests}
use Rattle.exact.specs.JobNumbers.{JobNumbers, LabelNumbers, TileNumbers, PlacedNumbers}
use Rattle.lines.specs.Lines.{Line}
use Rattle.jobs.specs.Ranges.{ChildrenNamed}
use Rattle.jobs.specs.Spelled.{label_line, subdivision_line, child_line, seed_line, tile_lines, lines_of}
use Rattle.jobs.specs.Refusals.{beyond, first_beyond}

-- the first that is there
abbrev pub or_else : Option ℕ → Option ℕ → Option ℕ
or_else None o = o
or_else (Some n) o = Some n

or_else_cond : (b : Bool) (k : ℕ) (o p : Option ℕ) → or_else (cond b (Some k) o) p ≡ cond b (Some k) (or_else o p)
or_else_cond true k o p = refl
or_else_cond false k o p = refl

pub beyond_append : (m k : ℕ) (xs ys : List Line) → first_beyond m k (xs ++ ys) ≡ or_else (first_beyond m k xs) (first_beyond m (k + length xs) ys)
beyond_append m k [] ys = let e : k ≡ k + 0 = omega arith in ap (λ z. first_beyond m z ys) e
beyond_append m k (x ∷ xs) ys =
    let e : k + 1 + length xs ≡ k + suc (length xs) = omega arith in
    ap (cond (beyond m x.letter x.numbers) (Some k)) (beyond_append m (k + 1) xs ys ∙ ap (λ z. or_else (first_beyond m (k + 1) xs) (first_beyond m z ys)) e)
    ∙ sym (or_else_cond (beyond m x.letter x.numbers) k (first_beyond m (k + 1) xs) _)

-- lines that are no child's
none_by : {X : Type 0} (m : ℕ) (f : X → Line) → ((x : X) → beyond m (f x).letter (f x).numbers ≡ false) → (k : ℕ) (xs : List X) → first_beyond m k (map f xs) ≡ None
none_by m f h k [] = refl
none_by m f h k (x ∷ xs) = ap (λ b. cond b (Some k) (first_beyond m (k + 1) (map f xs))) (h x) ∙ none_by m f h (k + 1) xs

skip : {X : Type 0} (m : ℕ) (f : X → Line) → ((x : X) → beyond m (f x).letter (f x).numbers ≡ false) → (k : ℕ) (xs : List X) (rest : List Line) → first_beyond m k (map f xs ++ rest) ≡ first_beyond m (k + length xs) rest
skip m f h k xs rest =
    beyond_append m k (map f xs) rest ∙ ap (λ o. or_else o (first_beyond m (k + length (map f xs)) rest)) (none_by m f h k xs) ∙ ap (λ n. first_beyond m (k + n) rest) (length-map xs f)

or_else_none : (o : Option ℕ) → or_else o None ≡ o
or_else_none None = refl
or_else_none (Some n) = refl

-- only the lines of tiles matter
pub late_lines : (m : ℕ) (j : JobNumbers) → first_beyond m 1 (lines_of j) ≡ first_beyond m (3 + length j.labels + length j.labels) (flat_map tile_lines j.tiles)
late_lines m j =
    skip m label_line (λ _. refl) 3 j.labels _
    ∙ skip m (λ (l : LabelNumbers). subdivision_line l.subdivision) (λ _. refl) (3 + length j.labels) j.labels _
    ∙ beyond_append m (3 + length j.labels + length j.labels) (flat_map tile_lines j.tiles) _
    ∙ ap (or_else (first_beyond m (3 + length j.labels + length j.labels) (flat_map tile_lines j.tiles))) (none_by m seed_line (λ _. refl) _ j.seeds)
    ∙ or_else_none _

none_children : (m k : ℕ) (cs : List PlacedNumbers) → AllByRecursion (λ (p : PlacedNumbers). p.tile < m) cs → first_beyond m k (map child_line cs) ≡ None
none_children m k [] a = refl
none_children m k (c ∷ cs) a =
    let e : leb m c.tile ≡ false = let h = a.0 in grind (arith, nat_tests) in
    ap (λ b. cond b (Some k) (first_beyond m (k + 1) (map child_line cs))) e ∙ none_children m (k + 1) cs a.1

pub none_tiles : (m k : ℕ) (ts : List TileNumbers) → AllByRecursion (ChildrenNamed m) ts → first_beyond m k (flat_map tile_lines ts) ≡ None
none_tiles m k [] a = refl
none_tiles m k (t ∷ ts) a =
    beyond_append m k (tile_lines t) (flat_map tile_lines ts)
    ∙ ap (λ o. or_else o (first_beyond m (k + length (tile_lines t)) (flat_map tile_lines ts))) (none_children m (k + 1) t.children a.0)
    ∙ none_tiles m (k + length (tile_lines t)) ts a.1

none_left : (o p : Option ℕ) → or_else o p ≡ None → (o ≡ None) × (p ≡ None)
none_left None p e = (refl, e)
none_left (Some n) p e = let bad : ◌≡◌ {A = ℕ} 0 1 = cc in absurd (omega arith)

children_named : (m k : ℕ) (cs : List PlacedNumbers) → first_beyond m k (map child_line cs) ≡ None → AllByRecursion (λ (p : PlacedNumbers). p.tile < m) cs
children_named m k [] e = tt
children_named m k (c ∷ cs) e = go (leb m c.tile) refl e (children_named m (k + 1) cs)
  where
    go : (b : Bool) → leb m c.tile ≡ b → cond b (Some k) (first_beyond m (k + 1) (map child_line cs)) ≡ None → (first_beyond m (k + 1) (map child_line cs) ≡ None → AllByRecursion (λ (p : PlacedNumbers). p.tile < m) cs) → AllByRecursion (λ (p : PlacedNumbers). p.tile < m) (c ∷ cs)
    go true h f rest = let bad : ◌≡◌ {A = ℕ} 0 1 = cc in absurd (omega arith)
    go false h f rest = (grind (arith, nat_tests), rest f)

pub tiles_named : (m k : ℕ) (ts : List TileNumbers) → first_beyond m k (flat_map tile_lines ts) ≡ None → AllByRecursion (ChildrenNamed m) ts
tiles_named m k [] e = tt
tiles_named m k (t ∷ ts) e =
    let h = none_left _ _ (sym (beyond_append m k (tile_lines t) (flat_map tile_lines ts)) ∙ e) in
    (children_named m (k + 1) t.children h.0, tiles_named m (k + length (tile_lines t)) ts h.1)

-- the first child beyond, by its place among the children
from_line : (m k : ℕ) (cs : List (Placed (Vec ℤ))) → first_beyond m k (map child_line (map placed_of cs)) ≡ position_from (λ (p : Placed (Vec ℤ)). nat_le m p.tile) k cs
from_line m k [] = refl
from_line m k (c ∷ cs) = ap (cond (nat_le m c.tile) (Some k)) (from_line m (k + 1) cs)

shifted : {X : Type 0} (t : X → Bool) (k j : ℕ) (xs : List X) → position_from t (k + j) xs ≡ option_map (λ i. k + i) (position_from t j xs)
shifted t k j [] = refl
shifted t k j (x ∷ xs) = go (t x) (let e : k + j + 1 ≡ k + (j + 1) = omega arith in ap (λ n. position_from t n xs) e ∙ shifted t k (j + 1) xs)
  where
    go : (b : Bool) → position_from t (k + j + 1) xs ≡ option_map (λ i. k + i) (position_from t (j + 1) xs) → cond b (Some (k + j)) (position_from t (k + j + 1) xs) ≡ option_map (λ i. k + i) (cond b (Some j) (position_from t (j + 1) xs))
    go true h = refl
    go false h = h

pub child_first : (m k : ℕ) (cs : List (Placed (Vec ℤ))) → first_beyond m k (map child_line (map placed_of cs)) ≡ option_map (λ i. k + i) (position (λ (p : Placed (Vec ℤ)). nat_le m p.tile) cs)
child_first m k cs =
    let t = λ (p : Placed (Vec ℤ)). nat_le m p.tile in
    let z : k ≡ k + 0 = omega arith in
    from_line m k cs ∙ ap (λ n. position_from t n cs) z ∙ shifted t k 0 cs ∙ ap (option_map (λ i. k + i)) (sym (position_from-zero t cs))

-- a loop over the tiles
pub at_line : (m a b : ℕ) (ls : List Line) → a ≡ b → first_beyond m a ls ≡ first_beyond m b ls
at_line m a b ls e = ap (λ z. first_beyond m z ls) e

pub tile_step : (m k i : ℕ) (ts : List (Tile (Vec ℤ))) (x : Tile (Vec ℤ)) → i < length ts → x ≡ get_or ts i x → flat_map tile_lines (map tile_of (drop i ts)) ≡ tile_lines (tile_of x) ++ flat_map tile_lines (map tile_of (drop (i + 1) ts))
tile_step m k i ts x l e = ap (λ t. flat_map tile_lines (map tile_of t)) (drop_more ts i x l ∙ ap (λ y. y ∷ drop (i + 1) ts) (sym e))

pub tile_length : (i : ℕ) (ts : List (Tile (Vec ℤ))) (x : Tile (Vec ℤ)) → i < length ts → x ≡ get_or ts i x → length (flat_map tile_lines (map tile_of (drop i ts))) ≡ 1 + length (vec_items x.children) + length (flat_map tile_lines (map tile_of (drop (i + 1) ts)))
tile_length i ts x l e =
    let a = ap length (tile_step 0 0 i ts x l e) ∙ length-append (tile_lines (tile_of x)) _ in
    let b = length-map (map placed_of (vec_items x.children)) child_line in
    let c = length-map (vec_items x.children) placed_of in
    omega arith

pub tile_late : (m k i late : ℕ) (ts : List (Tile (Vec ℤ))) (x : Tile (Vec ℤ)) → i < length ts → x ≡ get_or ts i x → Some late ≡ first_beyond m (k + 1) (map child_line (map placed_of (vec_items x.children))) → first_beyond m k (flat_map tile_lines (map tile_of (drop i ts))) ≡ Some late
tile_late m k i late ts x l e h =
    ap (first_beyond m k) (tile_step m k i ts x l e) ∙ beyond_append m k (tile_lines (tile_of x)) _ ∙ ap (λ o. or_else o (first_beyond m (k + length (tile_lines (tile_of x))) (flat_map tile_lines (map tile_of (drop (i + 1) ts))))) (sym h)

pub tile_fine : (m k i : ℕ) (ts : List (Tile (Vec ℤ))) (x : Tile (Vec ℤ)) → i < length ts → x ≡ get_or ts i x → None ≡ first_beyond m (k + 1) (map child_line (map placed_of (vec_items x.children))) → first_beyond m k (flat_map tile_lines (map tile_of (drop i ts))) ≡ first_beyond m (k + (1 + length (vec_items x.children))) (flat_map tile_lines (map tile_of (drop (i + 1) ts)))
tile_fine m k i ts x l e h =
    let b = length-map (map placed_of (vec_items x.children)) child_line in
    let c = length-map (vec_items x.children) placed_of in
    let n : k + length (tile_lines (tile_of x)) ≡ k + (1 + length (vec_items x.children)) = omega arith in
    ap (first_beyond m k) (tile_step m k i ts x l e) ∙ beyond_append m k (tile_lines (tile_of x)) _ ∙ ap (λ o. or_else o (first_beyond m (k + length (tile_lines (tile_of x))) (flat_map tile_lines (map tile_of (drop (i + 1) ts))))) (sym h) ∙ at_line m _ _ (flat_map tile_lines (map tile_of (drop (i + 1) ts))) n
