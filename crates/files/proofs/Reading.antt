-- Read record by record, a file leads where its calls lead.
use Rattle.std.proofs.Common.{◌≡◌, ℕ, zero, suc, ◌+◌, ◌*◌, ◌/◌, ◌%◌, ◌<◌, ◌≤◌, ◌↔◌, Bool, true, false, if◌then◌else◌, ◌==◌, nat_le, ◌&&◌, List, [], ◌∷◌, ◌++◌, length, take, drop, replicate, Some, None, Option, Ok, Err, Result, sym, refl, ap, ap₂, ◌∙◌, subst, arith, append_assoc, append-nil, flat_map, eqb-true, eq-eqb, ne_eqb, le-leb, le_refl, take-append-drop}
use Rattle.std.specs.List.{AllByRecursion}
use Rattle.std.proofs.Math.Seq.{append_snoc, drop-append_seam, take-append_seam}
use Rattle.std.proofs.lemmas.List.{append_cancel_left}
use Rattle.exact.specs.Cyclotomic.{Cyclotomic, CyclotomicLaws}
use Rattle.exact.specs.JobNumbers.{JobNumbers}
use Rattle.chains.specs.Books.{Placement}
use Rattle.chains.specs.Addresses.{seed_on, advance}
use Rattle.jobs.specs.Limits.{most_depth}
use Rattle.calls.specs.Limits.{most_pieces}
use Rattle.calls.specs.Records.{Record}
use Rattle.calls.specs.Sheets.{Sheet, start}
use Rattle.calls.specs.Moves.{Move, descending, laying, setting_aside, replayed}
use Rattle.calls.proofs.Moving as moving
use Rattle.calls.proofs.Moving.{Moved, descends, lays, sets_aside, Replayed, done, on}
use Rattle.files.specs.Files.{last_byte, same_bytes, bytes_of, record_bytes, saved, spelled, restored}
use Rattle.files.specs.Judging.{record_moves, added, if_begun, record_read, last_read, ended, going_on, scanned, judged}
use Rattle.files.proofs.Kept as kept
use Rattle.files.proofs.Kept.{Kept, Small, told, closing, record_calls}
use Rattle.files.proofs.Files as files

-- ---- what closes a record is no descent
abbrev pub Closes : Move → Type 0
Closes m = m ≡ descending → ⊥

closes_by : (aside : Bool) → Closes (if aside then setting_aside else laying)
closes_by true e = cc
closes_by false e = cc

pub closing_closes : {E : Cyclotomic} (laid : Option (Placement E)) → Closes (closing laid)
closing_closes None e = cc
closing_closes (Some p) e = cc

-- ---- what calls add to a sheet's records and to its cursor's descents
module _ (E : Cyclotomic) (N : JobNumbers) where
  descends_only : (p : ℕ) (s u : Sheet E) → Moved E N p descending s u → (u.records ≡ s.records) × (last_byte u.cursor ≡ last_byte s.cursor + 1)
  descends_only p _ _ (descends s c e below) = (refl, ap (λ o. last_byte o + 1) (sym e))

  pub descents : (p n : ℕ) (s t : Sheet E) → Replayed E N p (replicate n descending) s t → (t.records ≡ s.records) × (last_byte t.cursor ≡ last_byte s.cursor + n)
  descents p zero _ _ (done s) = (refl, omega arith)
  descents p (suc n) _ _ (on _ _ s u t h r) =
      let x = descends_only p s u h in
      let y = descents p n u t r in
      (y.0 ∙ x.0, omega (arith, x.1, y.1))

  closes : (p : ℕ) (m : Move) (s u : Sheet E) → Closes m → Moved E N p m s u → (r : Record E) × (u.records ≡ s.records ++ r ∷ []) × (last_byte u.cursor ≡ 0)
  closes p _ _ _ k (descends s c e below) = absurd (k refl)
  closes p _ _ _ k (lays s c x e at room f) = (_, refl, kept.fresh (advance N c.node))
  closes p _ _ _ k (sets_aside s c e room) = (_, refl, kept.fresh (advance N c.node))

  -- a record's calls add one record
  pub one_record : (p n : ℕ) (m : Move) (s u : Sheet E) → Closes m → Replayed E N p (replicate n descending ++ m ∷ []) s u → (r : Record E) × (u.records ≡ s.records ++ r ∷ []) × (last_byte u.cursor ≡ 0)
  one_record p zero m _ _ k (on _ _ s t _ h (done _)) = closes p m s t k h
  one_record p (suc n) m _ _ k (on _ _ s t u h q) =
      let x = one_record p n m t u k q in
      (x.0, x.1 ∙ ap (λ z. z ++ x.0 ∷ []) (descends_only p s t h).0, x.2)

  pub added_one : (s u : Sheet E) (r : Record E) → u.records ≡ s.records ++ r ∷ [] → added E N s u ≡ record_bytes E r
  unfolding added
  added_one s u r h =
      ap (λ z. flat_map (record_bytes E) (drop (length s.records) z)) h
      ∙ ap (flat_map (record_bytes E)) (drop-append_seam s.records (r ∷ []))
      ∙ append-nil (record_bytes E r)

refused : {S A : Type 0} (o : ℕ) (t : S) → ◌≡◌ {A = Result S ℕ} (Err o) (Ok t) → A
refused o t e = absurd cc

no_sheet : {S A : Type 0} (t : S) → ◌≡◌ {A = Option S} None (Some t) → A
no_sheet t e = absurd cc

-- ---- what is read is what the sheet that it leads to writes
module _ (E : Cyclotomic) (N : JobNumbers) where
  -- a record was read: one was added, and its bytes come first
  abbrev pub ReadTo : Sheet E → List ℕ → Sheet E → Type 0
  ReadTo s bytes u = (r : Record E) × (u.records ≡ s.records ++ r ∷ []) × (last_byte u.cursor ≡ 0) × (bytes ≡ record_bytes E r ++ drop (length (added E N s u)) bytes) × Kept E N most_pieces u

  -- so many records and the last byte were read: all that these bytes are
  abbrev pub Scanned : ℕ → Sheet E → List ℕ → Sheet E → Type 0
  Scanned k s bytes t = (rs : List (Record E)) × (t.records ≡ s.records ++ rs) × (length rs ≡ k) × (bytes ≡ flat_map (record_bytes E) rs ++ last_byte t.cursor ∷ []) × Kept E N most_pieces t

module _ (E : Cyclotomic) (N : JobNumbers) (low : N.depth ≤ most_depth) where
  begun_so : (s v u : Sheet E) (bytes : List ℕ) (b : Bool) → same_bytes (take (length (added E N s v)) bytes) (added E N s v) ≡ b → (if b then Some v else None) ≡ Some u → (v ≡ u) × (take (length (added E N s v)) bytes ≡ added E N s v)
  begun_so s v u bytes true f e = (cc, files.same_bytes_true _ _ f)
  begun_so s v u bytes false f e = no_sheet u e

  read_record : (s : Sheet E) (b : ℕ) (bytes : List ℕ) (v : Sheet E) → replayed E N most_pieces (record_moves b) s ≡ Some v → take (length (added E N s v)) (b ∷ bytes) ≡ added E N s v → Kept E N most_pieces s → ReadTo E N s (b ∷ bytes) v
  read_record s b bytes v f g k =
      let r = moving.is_replayed E N most_pieces (record_moves b) s v f in
      let y = one_record E N most_pieces (b % 16) _ s v (closes_by ((b / 16) == 1)) r in (
        y.0,
        y.1,
        y.2,
        sym (take-append-drop (length (added E N s v)) (b ∷ bytes)) ∙ ap (λ z. z ++ drop (length (added E N s v)) (b ∷ bytes)) (g ∙ added_one E N s v y.0 y.1),
        kept.kept_replay E N low most_pieces (record_moves b) s v r k,
      )

  pub record_is_read : (s : Sheet E) (bytes : List ℕ) (u : Sheet E) → record_read E N s bytes ≡ Some u → Kept E N most_pieces s → ReadTo E N s bytes u
  unfolding record_read
  record_is_read s [] u e k = no_sheet u e
  record_is_read s (b ∷ bytes) u e k = go (replayed E N most_pieces (record_moves b) s) refl e
    where
      go : (o : Option (Sheet E)) → replayed E N most_pieces (record_moves b) s ≡ o → if_begun E N s (b ∷ bytes) o ≡ Some u → ReadTo E N s (b ∷ bytes) u
      go None f e = no_sheet u e
      go (Some v) f e =
          let x = begun_so s v u (b ∷ bytes) _ refl e in
          subst (ReadTo E N s (b ∷ bytes)) x.0 (read_record s b bytes v f x.1 k)

  -- one byte is all that is left
  alone : (b : ℕ) (bytes : List ℕ) → (length (b ∷ bytes) == 1) ≡ true → bytes ≡ []
  alone b [] e = refl
  alone b (x ∷ bytes) e = let l : length (b ∷ x ∷ bytes) ≡ 1 = eqb-true _ _ e in absurd (omega arith)

  ends : (o : ℕ) (s : Sheet E) (bytes : List ℕ) (t : Sheet E) → ended E N o bytes (last_read E N s bytes) ≡ Ok t → last_byte s.cursor ≡ 0 → Kept E N most_pieces s → Scanned E N 0 s bytes t
  unfolding last_read
  ends o s [] t e z k = refused o t e
  ends o s (b ∷ bytes) t e z k = go (replayed E N most_pieces (replicate b descending) s) refl e
    where
      pick : (v : Sheet E) (c : Bool) → (length (b ∷ bytes) == 1) ≡ c → (if c then Ok v else Err (o + 1)) ≡ Ok t → (v ≡ t) × (bytes ≡ [])
      pick v true f e = (cc, alone b bytes f)
      pick v false f e = refused (o + 1) t e

      go : (q : Option (Sheet E)) → replayed E N most_pieces (replicate b descending) s ≡ q → ended E N o (b ∷ bytes) q ≡ Ok t → Scanned E N 0 s (b ∷ bytes) t
      go None f e = refused o t e
      go (Some v) f e =
          let x = pick v _ refl e in
          let r = moving.is_replayed E N most_pieces (replicate b descending) s v f in
          let y = descents E N most_pieces b s v r in
          let l : b ≡ last_byte v.cursor = omega (arith, y.1) in
          subst (Scanned E N 0 s (b ∷ bytes)) x.0 ([], y.0 ∙ sym (append-nil s.records), refl, ap₂ ◌∷◌ l x.1, kept.kept_replay E N low most_pieces (replicate b descending) s v r k)

  scans : (k o : ℕ) (s : Sheet E) (bytes : List ℕ) (t : Sheet E) → scanned E N k o s bytes ≡ Ok t → last_byte s.cursor ≡ 0 → Kept E N most_pieces s → Scanned E N k s bytes t
  unfolding scanned
  scans zero o s bytes t e z q = ends o s bytes t e z q
  scans (suc k) o s bytes t e z q = go (record_read E N s bytes) refl (λ o v bs. scans k o v bs t) e
    where
      go : (r : Option (Sheet E)) → record_read E N s bytes ≡ r → ((o : ℕ) (v : Sheet E) (bs : List ℕ) → scanned E N k o v bs ≡ Ok t → last_byte v.cursor ≡ 0 → Kept E N most_pieces v → Scanned E N k v bs t) →
          going_on E N o r (λ u. scanned E N k (o + length (added E N s u)) u (drop (length (added E N s u)) bytes)) ≡ Ok t → Scanned E N (suc k) s bytes t
      go None f ih e = refused o t e
      go (Some v) f ih e =
          let x = record_is_read s bytes v f q in
          let y = ih _ v _ e x.2 x.4 in (
            x.0 ∷ y.0,
            y.1 ∙ ap (λ z. z ++ y.0) x.1 ∙ append_snoc s.records x.0 y.0,
            ap suc y.2,
            x.3 ∙ ap (◌++◌ (record_bytes E x.0)) y.3 ∙ sym (append_assoc (record_bytes E x.0) _ _),
            y.4,
          )

-- ---- what a sheet writes is read
moves_of_byte : (r q d : ℕ) (m : Move) → r ≡ d → (if q == 1 then setting_aside else laying) ≡ m →
    replicate r descending ++ (if q == 1 then setting_aside else laying) ∷ [] ≡ replicate d descending ++ m ∷ []
moves_of_byte r q d m e f = ap₂ (λ n k. replicate n descending ++ k ∷ []) e f

aside_byte : (d : ℕ) → d < 16 → record_moves (d + 16) ≡ replicate d descending ++ setting_aside ∷ []
aside_byte d l = moves_of_byte ((d + 16) % 16) ((d + 16) / 16) d setting_aside (omega arith) (ap (λ b. if b then setting_aside else laying) (eq-eqb _ _ (omega arith)))

laying_byte : (d : ℕ) (mirrored : Bool) → d < 16 → record_moves (d + (if mirrored then 32 else 0)) ≡ replicate d descending ++ laying ∷ []
laying_byte d true l = moves_of_byte ((d + 32) % 16) ((d + 32) / 16) d laying (omega arith) (ap (λ b. if b then setting_aside else laying) (ne_eqb _ _ (omega arith)))
laying_byte d false l = moves_of_byte ((d + 0) % 16) ((d + 0) / 16) d laying (omega arith) (ap (λ b. if b then setting_aside else laying) (ne_eqb _ _ (omega arith)))

module _ (E : Cyclotomic) (N : JobNumbers) where
  begun : (s u : Sheet E) (w rest : List ℕ) → added E N s u ≡ w → if_begun E N s (w ++ rest) (Some u) ≡ Some u
  begun s u w rest h =
      ap (λ a. if same_bytes (take (length a) (w ++ rest)) a then Some u else None) h
      ∙ ap (λ z. if same_bytes z w then Some u else None) (take-append_seam w rest)
      ∙ ap (λ b. if b then Some u else None) (files.same_bytes_self w)

  pub reads : (d : ℕ) (laid : Option (Placement E)) (s u : Sheet E) (rest : List ℕ) → d < 16 → Replayed E N most_pieces (replicate d descending ++ closing laid ∷ []) s u →
      added E N s u ≡ bytes_of E d laid → record_read E N s (bytes_of E d laid ++ rest) ≡ Some u
  unfolding record_read
  reads d None s u rest l h a =
      ap (if_begun E N s (bytes_of E d None ++ rest)) (ap (λ ms. replayed E N most_pieces ms s) (aside_byte d l) ∙ moving.replays E N most_pieces _ s u h)
      ∙ begun s u _ rest a
  reads d (Some p) s u rest l h a =
      ap (if_begun E N s (bytes_of E d (Some p) ++ rest)) (ap (λ ms. replayed E N most_pieces ms s) (laying_byte d p.mirrored l) ∙ moving.replays E N most_pieces _ s u h)
      ∙ begun s u _ rest a

  -- one record is read, and the rest gone on with
  reads_on : (k o : ℕ) (s u t : Sheet E) (r : Record E) (bytes : List ℕ) → r.descents < 16 → Replayed E N most_pieces (record_calls r) s u → added E N s u ≡ record_bytes E r →
      ((o : ℕ) → scanned E N k o u bytes ≡ Ok t) → scanned E N (suc k) o s (record_bytes E r ++ bytes) ≡ Ok t
  unfolding scanned record_bytes
  reads_on k o s u t r bytes l h a next =
      ap (λ x. going_on E N o x (λ v. scanned E N k (o + length (added E N s v)) v (drop (length (added E N s v)) (bytes_of E r.descents r.laid ++ bytes)))) (reads r.descents r.laid s u bytes l h a)
      ∙ ap (scanned E N k (o + length (added E N s u)) u) (ap (λ z. drop (length z) (bytes_of E r.descents r.laid ++ bytes)) a ∙ drop-append_seam (bytes_of E r.descents r.laid) bytes)
      ∙ next (o + length (added E N s u))

  -- the record that a record's calls add, by what comes after them
  pub added_first : (s u t : Sheet E) (r : Record E) (rs fs : List (Record E)) → t.records ≡ s.records ++ r ∷ rs → t.records ≡ u.records ++ fs → Replayed E N most_pieces (record_calls r) s u →
      (added E N s u ≡ record_bytes E r) × (rs ≡ fs)
  added_first s u t r rs fs q f h =
      let x = one_record E N most_pieces r.descents (closing r.laid) s u (closing_closes r.laid) h in
      let joined : r ∷ rs ≡ x.0 ∷ fs = append_cancel_left s.records _ _ (sym q ∙ f ∙ ap (λ z. z ++ fs) x.1 ∙ append_snoc s.records x.0 fs) in
      (added_one E N s u x.0 x.1 ∙ ap (record_bytes E) (cc), cc)

  scans_back : (rs : List (Record E)) (o : ℕ) (s t : Sheet E) → Small rs → t.records ≡ s.records ++ rs → Replayed E N most_pieces (flat_map record_calls rs ++ replicate (last_byte t.cursor) descending) s t →
      scanned E N (length rs) o s (flat_map (record_bytes E) rs ++ last_byte t.cursor ∷ []) ≡ Ok t
  unfolding scanned last_read
  scans_back [] o s t h q r = ap (ended E N o (last_byte t.cursor ∷ [])) (moving.replays E N most_pieces _ s t r)
  scans_back (d ∷ rs) o s t h q r =
      let x = moving.parted E N most_pieces (record_calls d) (flat_map record_calls rs ++ replicate (last_byte t.cursor) descending) s t (subst (λ ms. Replayed E N most_pieces ms s t) (append_assoc (record_calls d) _ _) r) in
      let y = moving.more E N most_pieces _ x.0 t x.2 in
      let a = added_first s x.0 t d rs y.0 q y.1 x.1 in
      ap (scanned E N (suc (length rs)) o s) (append_assoc (record_bytes E d) _ _)
      ∙ reads_on (length rs) o s x.0 t d _ h.0 x.1 a.0 (λ o. scans_back rs o x.0 t h.1 (y.1 ∙ ap (◌++◌ x.0.records) (sym a.1)) x.2)

-- ---- a file is judged good just where it restores a sheet
both : (a b : Bool) → (a && b) ≡ true → (a ≡ true) × (b ≡ true)
both true b e = (refl, e)
both false b e = absurd cc

module _ (E : Cyclotomic) (L : CyclotomicLaws E) (N : JobNumbers) (low : N.depth ≤ most_depth) where
  header_written : (d high low_byte : ℕ) (bytes : List ℕ) (t : Sheet E) → low_byte < 256 → d ≡ N.depth → length t.records ≡ high * 256 + low_byte →
      bytes ≡ flat_map (record_bytes E) t.records ++ last_byte t.cursor ∷ [] → saved E N t ≡ d ∷ high ∷ low_byte ∷ bytes
  unfolding saved
  header_written d high low_byte bytes t l e n f =
      let upper : length t.records / 256 ≡ high = omega arith in
      let lower : length t.records % 256 ≡ low_byte = omega arith in
      ap₂ ◌∷◌ (sym e) (ap₂ ◌∷◌ upper (ap₂ ◌∷◌ lower (sym f)))

  scanned_restored : (d high low_byte : ℕ) (bytes : List ℕ) (t : Sheet E) → low_byte < 256 → d ≡ N.depth → scanned E N (high * 256 + low_byte) 3 (start E N) bytes ≡ Ok t →
      restored E N (d ∷ high ∷ low_byte ∷ bytes) ≡ Some t
  unfolding start
  scanned_restored d high low_byte bytes t l e f =
      let x = scans E N low (high * 256 + low_byte) 3 (start E N) bytes t f (kept.fresh (seed_on N 0)) (kept.kept_start E N most_pieces) in
      let n : length t.records ≡ high * 256 + low_byte = ap length x.1 ∙ x.2 in
      let g : bytes ≡ flat_map (record_bytes E) t.records ++ last_byte t.cursor ∷ [] = x.3 ∙ ap (λ rs. flat_map (record_bytes E) rs ++ last_byte t.cursor ∷ []) (sym x.1) in
      subst (λ z. restored E N z ≡ Some t) (header_written d high low_byte bytes t l e n g) (files.restores E L N most_pieces t (le_refl most_pieces) x.4)

  judged_there : (file : List ℕ) → AllByRecursion (λ b. b < 256) file → (t : Sheet E) → judged E N file ≡ Ok t → restored E N file ≡ Some t
  unfolding judged
  judged_there [] h t e = refused 0 t e
  judged_there (d ∷ []) h t e = refused 0 t e
  judged_there (d ∷ high ∷ []) h t e = refused 0 t e
  judged_there (d ∷ high ∷ low_byte ∷ bytes) h t e = go ((d == N.depth) && nat_le (high * 256 + low_byte) most_pieces) refl e
    where
      go : (b : Bool) → ((d == N.depth) && nat_le (high * 256 + low_byte) most_pieces) ≡ b → (if b then scanned E N (high * 256 + low_byte) 3 (start E N) bytes else Err 0) ≡ Ok t →
          restored E N (d ∷ high ∷ low_byte ∷ bytes) ≡ Some t
      go false f e = refused 0 t e
      go true f e = scanned_restored d high low_byte bytes t h.1.1.0 (eqb-true d N.depth (both _ _ f).0) e

  judged_saved : (t : Sheet E) → Kept E N most_pieces t → judged E N (saved E N t) ≡ Ok t
  unfolding judged saved start
  judged_saved t k =
      ap (λ n. if (N.depth == N.depth) && nat_le n most_pieces then scanned E N n 3 (start E N) (flat_map (record_bytes E) t.records ++ last_byte t.cursor ∷ []) else Err 0) (files.counted (length t.records))
      ∙ ap (λ b. if b then scanned E N (length t.records) 3 (start E N) (flat_map (record_bytes E) t.records ++ last_byte t.cursor ∷ []) else Err 0) (ap₂ ◌&&◌ (eq-eqb N.depth _ refl) (le-leb _ _ k.fits))
      ∙ scans_back E N t.records 3 (start E N) t k.small refl k.way

  pub judging : (file : List ℕ) → AllByRecursion (λ b. b < 256) file → (t : Sheet E) → (judged E N file ≡ Ok t) ↔ (restored E N file ≡ Some t)
  judging file h t = (judged_there file h t, back)
    where
      back : restored E N file ≡ Some t → judged E N file ≡ Ok t
      back e =
          let x = files.is_restored E N file t e in
          subst (λ f. judged E N f ≡ Ok t) x.1 (judged_saved t (kept.kept_replay E N low most_pieces (spelled E N file) (start E N) t x.0 (kept.kept_start E N most_pieces)))
