-- The chains of a book are short.
use Rattle.std.proofs.Common.{◌≡◌, ℕ, zero, suc, ◌*◌, ◌≤◌, List, [], ◌∷◌, map, length, get_or, ℤ, vec_items, sym, refl, ap, ◌∙◌, subst, arith}
use mathlib.Core.List.{flat_map}
use Rattle.std.proofs.lemmas.List.{length-map, length-append}
use Rattle.exact.specs.Cyclotomic.{Cyclotomic}
use Rattle.exact.specs.JobNumbers as numbers
use Rattle.chains.specs.Counts as counts
use Rattle.chains.specs.Counts.{scaled}
use Rattle.chains.specs.Books as books
use Rattle.chains.specs.Books.{label_at, tile_at}
use Rattle.chains.specs.Edges as chains
use Rattle.chains.specs.Edges.{walk}
use Rattle.chains.specs.Inflation.{stepped, subdivided, inflate}
use Rattle.chains.specs.Placements.{placed, outline, placed_outline, outlines}
use Rattle.job_rows.specs.declared.Label.{Label}
use Rattle.job_rows.specs.declared.Tile.{Tile}
use Rattle.job_rows.specs.declared.Book.{Book}
use Rattle.edges.specs.declared.rows.Counted.{Counted}
use Rattle.job_rows.specs.Limits.{most_parts, most_steps, most_children}
use Rattle.edges.specs.Views.{book_view, label_view, tile_view, counted_view, chain_view}
use Rattle.edges.proofs.Numbered.{no_label, no_tile}

pub stepped_length : (j : ℕ) (ps : List numbers.Part) → length (stepped j ps) ≡ length ps
unfolding stepped
stepped_length j [] = refl
stepped_length j (p ∷ ps) = ap suc (stepped_length j ps)

scaled_length : {K : Type 0} (c : ℤ) (xs : List (counts.Counted K)) → length (scaled c xs) ≡ length xs
unfolding scaled
scaled_length c [] = refl
scaled_length c (x ∷ xs) = ap suc (scaled_length c xs)

module _ (E : Cyclotomic) (B : books.Book E) where
  walk_length : (ss : List numbers.Step) (q : E.Elem) → length (walk E B ss q) ≡ length ss
  unfolding walk
  walk_length [] q = refl
  walk_length (s ∷ ss) q = ap suc (walk_length ss _)

  module _ (few : (t : ℕ) → length (tile_at B t).outline ≤ most_steps) (short : (e : ℕ) → length (label_at B e).subdivision ≤ most_parts) where
    outline_few : (t : ℕ) → length (outline E B t) ≤ most_steps
    unfolding outline
    outline_few t = subst (λ n. n ≤ most_steps) (sym (walk_length (tile_at B t).outline E.zero)) (few t)

    placed_few : (p : books.Placement E) → length (placed_outline E B p) ≤ most_steps
    unfolding placed_outline placed
    placed_few p = simp length-map (outline_few p.tile)

    pub outlines_few : (ps : List (books.Placement E)) → length (outlines E B ps) ≤ most_steps * length ps
    unfolding outlines flat_map
    outlines_few [] = omega arith
    outlines_few (p ∷ ps) = let h = placed_few p in let k = outlines_few ps in simp length-append (omega arith)

    subdivided_short : (x : chains.Edge E) → length (subdivided E B x) ≤ most_parts
    unfolding subdivided
    subdivided_short x = subst (λ n. n ≤ most_parts) (sym (walk_length (stepped x.direction (label_at B x.label).subdivision) _ ∙ stepped_length x.direction (label_at B x.label).subdivision)) (short x.label)

    inflate_short : (xs : chains.Chain E) → length (inflate E B xs) ≤ most_parts * length xs
    unfolding inflate
    inflate_short [] = omega arith
    inflate_short (x ∷ xs) =
        let h = subdivided_short x.what in let s = scaled_length x.count (subdivided E B x.what) in let k = inflate_short xs in simp length-append (omega arith)

    pub inflated_few : (t : ℕ) → length (inflate E B (outline E B t)) ≤ most_parts * most_steps
    inflated_few t = let h = inflate_short (outline E B t) in let k = outline_few t in omega arith

module _ {S : Type 0} (E : Cyclotomic) (v : S → E.Elem) where
  tiles_few : (ts : List (Tile S)) (t : ℕ) → length (get_or (map (tile_view E v) ts) t (no_tile E)).outline ≤ most_steps
  tiles_few [] t = omega arith
  tiles_few (x ∷ xs) zero = simp length-map (subst (λ n. n ≤ most_steps) x.outline.ok.0 x.few)
  tiles_few (x ∷ xs) (suc t) = tiles_few xs t

  tiles_small : (ts : List (Tile S)) (t : ℕ) → length (get_or (map (tile_view E v) ts) t (no_tile E)).children ≤ most_children
  tiles_small [] t = omega arith
  tiles_small (x ∷ xs) zero = simp length-map (subst (λ n. n ≤ most_children) x.children.ok.0 x.family)
  tiles_small (x ∷ xs) (suc t) = tiles_small xs t

  labels_short : (ls : List (Label S)) (e : ℕ) → length (get_or (map (label_view E v) ls) e (no_label E)).subdivision ≤ most_parts
  labels_short [] e = omega arith
  labels_short (x ∷ xs) zero = simp length-map (subst (λ n. n ≤ most_parts) x.subdivision.ok.0 x.short)
  labels_short (x ∷ xs) (suc e) = labels_short xs e

  module _ (b : Book S) where
    pub few_steps : (t : ℕ) → length (tile_at (book_view E v b) t).outline ≤ most_steps
    unfolding book_view
    few_steps t = tiles_few (vec_items b.tiles) t

    pub few_children : (t : ℕ) → length (tile_at (book_view E v b) t).children ≤ most_children
    unfolding book_view
    few_children t = tiles_small (vec_items b.tiles) t

    pub few_parts : (e : ℕ) → length (label_at (book_view E v b) e).subdivision ≤ most_parts
    unfolding book_view
    few_parts e = labels_short (vec_items b.labels) e

    pub parts_count : (t : ℕ) → length (outlines E (book_view E v b) (tile_at (book_view E v b) t).children) ≤ most_steps * most_children
    parts_count t = let h = outlines_few E (book_view E v b) few_steps few_parts (tile_at (book_view E v b) t).children in let k = few_children t in omega arith

    pub whole_count : (t : ℕ) → length (inflate E (book_view E v b) (outline E (book_view E v b) t)) ≤ most_parts * most_steps
    whole_count t = inflated_few E (book_view E v b) few_steps few_parts t

-- as long as what it stands for
pub as_long : {S : Type 0} (E : Cyclotomic) (v : S → E.Elem) (W : counts.Counted (chains.Edge E) → counts.Counted (chains.Edge E)) (us : List (Counted S)) (xs : chains.Chain E) (m : ℕ) →
    chain_view E v us ≡ map W xs → length xs ≤ m → length us ≤ m
as_long E v W us xs m e h = subst (λ n. n ≤ m) (sym (length-map xs W) ∙ sym (ap length e) ∙ length-map us (counted_view E v)) h
