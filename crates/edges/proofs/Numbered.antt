-- Labels and tiles of a book by their numbers.
use Rattle.std.proofs.Common.{◌≡◌, ℕ, ◌<◌, ◌≤◌, false, List, [], map, length, get_or, vec_items, vec_len, Some, None, Bor, sym, refl, ap, ◌∙◌}
use Rattle.std.proofs.lemmas.List.{get_or-map, get_or_past, length-map}
use Rattle.std.specs.Slice.{IsItemAt}
use Rattle.exact.specs.Cyclotomic.{Cyclotomic}
use Rattle.chains.specs.Books as books
use Rattle.job_rows.specs.declared.Label.{Label}
use Rattle.job_rows.specs.declared.Tile.{Tile}
use Rattle.job_rows.specs.declared.Book.{Book}
use Rattle.edges.specs.Views.{book_view, label_view, tile_view}

at : {X Y : Type 0} (f : X → Y) (xs : List X) (i : ℕ) (x : X) (d : Y) → i < length xs → x ≡ get_or xs i x → get_or (map f xs) i d ≡ f x
at f xs i x d h e = get_or-map f xs i x d h ∙ ap f (sym e)

past : {X Y : Type 0} (f : X → Y) (xs : List X) (i : ℕ) (d : Y) → length xs ≤ i → get_or (map f xs) i d ≡ d
past f xs i d h = get_or_past (map f xs) i d (simp length-map h)

-- what stands beyond the last label, and beyond the last tile
abbrev pub no_label : (E : Cyclotomic) → books.Label E
no_label E = record { arrowed = false; length = E.zero; subdivision = [] }

abbrev pub no_tile : (E : Cyclotomic) → books.Tile E
no_tile E = record { outline = []; children = [] }

module _ {S : Type 0} (E : Cyclotomic) (v : S → E.Elem) (b : Book S) where
  -- what `get` finds among the rows of labels or of tiles
  module _ (rows : List (Label S)) (is : rows ≡ vec_items b.labels) (e : ℕ) where
    pub label_found : (x : Bor (Label S)) → IsItemAt rows e (Some x) → books.label_at (book_view E v b) e ≡ label_view E v x.now
    unfolding book_view
    label_found x h = ap (λ l. get_or (map (label_view E v) l) e (no_label E)) (sym is) ∙ at (label_view E v) rows e x.now (no_label E) h.3.0 h.1

    pub label_missing : IsItemAt rows e None → books.label_at (book_view E v b) e ≡ no_label E
    unfolding book_view
    label_missing h = ap (λ l. get_or (map (label_view E v) l) e (no_label E)) (sym is) ∙ past (label_view E v) rows e (no_label E) h.3

  module _ (rows : List (Tile S)) (is : rows ≡ vec_items b.tiles) (t : ℕ) where
    pub tile_found : (x : Bor (Tile S)) → IsItemAt rows t (Some x) → books.tile_at (book_view E v b) t ≡ tile_view E v x.now
    unfolding book_view
    tile_found x h = ap (λ l. get_or (map (tile_view E v) l) t (no_tile E)) (sym is) ∙ at (tile_view E v) rows t x.now (no_tile E) h.3.0 h.1

    pub tile_missing : IsItemAt rows t None → books.tile_at (book_view E v b) t ≡ no_tile E
    unfolding book_view
    tile_missing h = ap (λ l. get_or (map (tile_view E v) l) t (no_tile E)) (sym is) ∙ past (tile_view E v) rows t (no_tile E) h.3

  pub labels_many : length (book_view E v b).labels ≡ vec_len b.labels
  unfolding book_view
  labels_many = length-map (vec_items b.labels) (label_view E v) ∙ sym b.labels.ok.0

  pub tiles_many : length (book_view E v b).tiles ≡ vec_len b.tiles
  unfolding book_view
  tiles_many = length-map (vec_items b.tiles) (tile_view E v) ∙ sym b.tiles.ok.0

  pub factor_is : (book_view E v b).factor ≡ v b.factor
  unfolding book_view
  factor_is = refl
