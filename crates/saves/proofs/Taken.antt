-- One record, read at a sheet's cursor.
use Rattle.std.proofs.Common.{◌≡◌, ◌≢◌, ℕ, zero, suc, ◌/◌, ◌%◌, ◌<◌, Bool, true, false, if◌then◌else◌, ◌==◌, nat_lt, List, [], ◌∷◌, ◌++◌, length, take, drop, get_or, replicate, Some, None, Option, Ok, Err, sym, refl, ap, ◌∙◌, arith, lt-ltb, take-append-drop}
use Rattle.std.specs.Option.{option_map}
use Rattle.std.proofs.Math.Seq.{take-append_seam}
use Rattle.exact.specs.Cyclotomic.{Cyclotomic}
use Rattle.exact.specs.JobNumbers.{JobNumbers}
use Rattle.chains.specs.Addresses.{level, advance}
use Rattle.nodes.specs.Table.{Entry, there, missing, outside, table}
use Rattle.calls.specs.Limits.{most_pieces}
use Rattle.calls.specs.Records.{Record}
use Rattle.calls.specs.Sheets.{Cursor, Sheet, nothing_pending, wrong_level, no_room, provided, come_to, descended, recorded, placed_from, descend, lay_by, set_aside}
use Rattle.calls.specs.Moves.{Move, descending, laying, setting_aside, moved, followed, replayed}
use Rattle.files.specs.Files.{same_bytes, record_bytes}
use Rattle.files.specs.Judging.{record_moves, added, if_begun, record_read}
use Rattle.files.proofs.Files.{same_bytes_true, same_bytes_self}
use Rattle.files.proofs.Reading.{added_one}
use Rattle.saves.specs.Records.{below, deeper, laid_in, piece_at, record_with, closed_at}

module _ (E : Cyclotomic) (N : JobNumbers) where
  -- a sheet by its cursor and its records
  abbrev pub sheet : Option Cursor → List (Record E) → Sheet E
  sheet o rs = record { cursor = o; records = rs }

  -- the sheet with one record more, closed at a cursor
  abbrev pub closed : List (Record E) → Cursor → Record E → Sheet E
  closed rs d r = sheet (come_to (advance N d.node)) (rs ++ r ∷ [])

  -- ---- the calls of a record
  module _ (p : ℕ) (ms : List Move) (rs : List (Record E)) where
    abbrev pub going_on : Option Cursor → Option (Sheet E)
    going_on None = None
    going_on (Some d) = replayed E N p ms (sheet (Some d) rs)

    pub after_descents : (n : ℕ) (c : Cursor) → replayed E N p (replicate n descending ++ ms) (sheet (Some c) rs) ≡ going_on (deeper N.depth n c)
    unfolding replayed moved descend deeper
    after_descents zero c = refl
    after_descents (suc n) c = go (nat_lt (level c.node) N.depth) (after_descents n (below c))
      where
        go : (b : Bool) → replayed E N p (replicate n descending ++ ms) (sheet (Some (below c)) rs) ≡ going_on (deeper N.depth n (below c)) →
            followed E N (provided b wrong_level (Ok (descended E N (sheet (Some c) rs) c))) (replayed E N p (replicate n descending ++ ms)) ≡ going_on (if b then deeper N.depth n (below c) else None)
        go true h = h
        go false h = refl

  module _ (p : ℕ) (rs : List (Record E)) (room : length rs < p) (d : Cursor) where
    laid : replayed E N p (laying ∷ []) (sheet (Some d) rs) ≡ option_map (closed rs d) (closed_at E N d false)
    unfolding replayed moved lay_by piece_at
    laid =
        ap (λ b. followed E N (provided (level d.node == N.depth) wrong_level (provided b no_room (placed_from E N (table E N d.node) (sheet (Some d) rs) d))) (replayed E N p [])) (lt-ltb _ _ room)
        ∙ go (level d.node == N.depth) (table E N d.node)
      where
        go : (b : Bool) (entry : Entry E) →
            followed E N (provided b wrong_level (placed_from E N entry (sheet (Some d) rs) d)) (replayed E N p []) ≡ option_map (closed rs d) (option_map (λ q. record_with E N d (Some q)) (if b then laid_in E N entry else None))
        go true (there q) = refl
        go true missing = refl
        go true outside = refl
        go false entry = refl

    put_aside : replayed E N p (setting_aside ∷ []) (sheet (Some d) rs) ≡ option_map (closed rs d) (closed_at E N d true)
    unfolding replayed moved set_aside
    put_aside = ap (λ b. followed E N (provided b no_room (Ok (recorded E N (sheet (Some d) rs) d None))) (replayed E N p [])) (lt-ltb _ _ room)

    closing : (aside : Bool) → replayed E N p ((if aside then setting_aside else laying) ∷ []) (sheet (Some d) rs) ≡ option_map (closed rs d) (closed_at E N d aside)
    closing true = put_aside
    closing false = laid

  -- where nothing is pending no record is closed
  pub nothing_first : (p : ℕ) (m : Move) (rs : List (Record E)) → moved E N p m (sheet None rs) ≡ Err nothing_pending
  unfolding moved descend lay_by set_aside
  nothing_first p descending rs = refl
  nothing_first p laying rs = refl
  nothing_first p setting_aside rs = refl

  nowhere : (p n : ℕ) (m : Move) (rs : List (Record E)) → replayed E N p (replicate n descending ++ m ∷ []) (sheet None rs) ≡ None
  unfolding replayed
  nowhere p zero m rs = ap (λ r. followed E N r (replayed E N p [])) (nothing_first p m rs)
  nowhere p (suc n) m rs = ap (λ r. followed E N r (replayed E N p (replicate n descending ++ m ∷ []))) (nothing_first p descending rs)

  -- the record that is read at a cursor with a first byte, if there is one, and where it is closed
  abbrev pub closed_by : ℕ → Option Cursor → Option (Record E)
  closed_by b None = None
  closed_by b (Some d) = closed_at E N d ((b / 16) == 1)

  module _ (rs : List (Record E)) (room : length rs < most_pieces) (b : ℕ) where
    replay : (c d : Cursor) → deeper N.depth (b % 16) c ≡ Some d → replayed E N most_pieces (record_moves b) (sheet (Some c) rs) ≡ option_map (closed rs d) (closed_at E N d ((b / 16) == 1))
    replay c d e = after_descents most_pieces _ rs (b % 16) c ∙ ap (going_on most_pieces _ rs) e ∙ closing most_pieces rs room d ((b / 16) == 1)

    replay_deep : (c : Cursor) → deeper N.depth (b % 16) c ≡ None → replayed E N most_pieces (record_moves b) (sheet (Some c) rs) ≡ None
    replay_deep c e = after_descents most_pieces _ rs (b % 16) c ∙ ap (going_on most_pieces _ rs) e

  -- ---- the bytes of a record
  read_first : (s : Sheet E) (bytes : List ℕ) (b : ℕ) → 0 < length bytes → b ≡ get_or bytes 0 0 → record_read E N s bytes ≡ if_begun E N s bytes (replayed E N most_pieces (record_moves b) s)
  unfolding record_read
  read_first s [] b h e = absurd (omega arith)
  read_first s (x ∷ bytes) b h e = ap (λ y. if_begun E N s (x ∷ bytes) (replayed E N most_pieces (record_moves y) s)) (sym e)

  begun : (s u : Sheet E) (w bytes rest : List ℕ) → added E N s u ≡ w → bytes ≡ w ++ rest → if_begun E N s bytes (Some u) ≡ Some u
  begun s u w bytes rest h e =
      ap (λ a. if same_bytes (take (length a) bytes) a then Some u else None) h
      ∙ ap (λ z. if same_bytes (take (length w) z) w then Some u else None) e
      ∙ ap (λ z. if same_bytes z w then Some u else None) (take-append_seam w rest)
      ∙ ap (λ b. if b then Some u else None) (same_bytes_self w)

  not_begun : (s u : Sheet E) (w bytes : List ℕ) → added E N s u ≡ w → ((rest : List ℕ) → bytes ≢ w ++ rest) → if_begun E N s bytes (Some u) ≡ None
  not_begun s u w bytes h apart = ap (λ a. if same_bytes (take (length a) bytes) a then Some u else None) h ∙ go (same_bytes (take (length w) bytes) w) refl
    where
      go : (b : Bool) → same_bytes (take (length w) bytes) w ≡ b → (if b then Some u else None) ≡ None
      go true e = absurd (apart (drop (length w) bytes) (sym (take-append-drop (length w) bytes) ∙ ap (λ z. z ++ drop (length w) bytes) (same_bytes_true _ _ e)))
      go false e = refl

  -- ---- a record is read, or is not
  pub no_byte : (s : Sheet E) (bytes : List ℕ) → length bytes < 1 → record_read E N s bytes ≡ None
  unfolding record_read
  no_byte s [] h = refl
  no_byte s (b ∷ bytes) h = absurd (omega arith)

  module _ (rs : List (Record E)) (bytes : List ℕ) (b : ℕ) (some : 0 < length bytes) (first : b ≡ get_or bytes 0 0) where
    pub nothing_pending_there : record_read E N (sheet None rs) bytes ≡ None
    nothing_pending_there = read_first (sheet None rs) bytes b some first ∙ ap (if_begun E N (sheet None rs) bytes) (nowhere most_pieces (b % 16) _ rs)

    module _ (c : Cursor) (room : length rs < most_pieces) where
      pub too_deep : deeper N.depth (b % 16) c ≡ None → record_read E N (sheet (Some c) rs) bytes ≡ None
      too_deep e = read_first (sheet (Some c) rs) bytes b some first ∙ ap (if_begun E N (sheet (Some c) rs) bytes) (replay_deep rs room b c e)

      module _ (d : Cursor) (deep : deeper N.depth (b % 16) c ≡ Some d) where
        read_at : record_read E N (sheet (Some c) rs) bytes ≡ if_begun E N (sheet (Some c) rs) bytes (option_map (closed rs d) (closed_at E N d ((b / 16) == 1)))
        read_at = read_first (sheet (Some c) rs) bytes b some first ∙ ap (if_begun E N (sheet (Some c) rs) bytes) (replay rs room b c d deep)

        pub not_closed : closed_at E N d ((b / 16) == 1) ≡ None → record_read E N (sheet (Some c) rs) bytes ≡ None
        not_closed e = read_at ∙ ap (λ o. if_begun E N (sheet (Some c) rs) bytes (option_map (closed rs d) o)) e

        pub not_written : (r : Record E) → closed_at E N d ((b / 16) == 1) ≡ Some r → ((rest : List ℕ) → bytes ≢ record_bytes E r ++ rest) → record_read E N (sheet (Some c) rs) bytes ≡ None
        not_written r e apart =
            read_at
            ∙ ap (λ o. if_begun E N (sheet (Some c) rs) bytes (option_map (closed rs d) o)) e
            ∙ not_begun (sheet (Some c) rs) (closed rs d r) (record_bytes E r) bytes (added_one E N (sheet (Some c) rs) (closed rs d r) r refl) apart

        pub is_read : (r : Record E) (rest : List ℕ) → closed_at E N d ((b / 16) == 1) ≡ Some r → bytes ≡ record_bytes E r ++ rest → record_read E N (sheet (Some c) rs) bytes ≡ Some (closed rs d r)
        is_read r rest e h =
            read_at
            ∙ ap (λ o. if_begun E N (sheet (Some c) rs) bytes (option_map (closed rs d) o)) e
            ∙ begun (sheet (Some c) rs) (closed rs d r) (record_bytes E r) bytes rest (added_one E N (sheet (Some c) rs) (closed rs d r) r refl) h
