-- Where a file that is no lawful save goes wrong.
use Rattle.std.proofs.Common.{◌≡◌, ℕ, zero, suc, ◌+◌, ◌*◌, ◌<◌, ◌≤◌, ◌⊎◌, inl, inr, Bool, true, false, if◌then◌else◌, ◌==◌, nat_le, ◌&&◌, List, [], ◌∷◌, ◌++◌, length, get_or, drop, replicate, Some, None, Option, Ok, Err, Result, sym, refl, ap, ap₂, ◌∙◌, subst, arith, length-append, append_assoc, append-nil, flat_map, eq-eqb, le-leb}
use Rattle.exact.specs.Cyclotomic.{Cyclotomic}
use Rattle.exact.specs.JobNumbers.{JobNumbers}
use Rattle.chains.specs.Addresses.{seed_on}
use Rattle.jobs.specs.Limits.{most_depth}
use Rattle.calls.specs.Limits.{most_pieces}
use Rattle.calls.specs.Records.{Record}
use Rattle.calls.specs.Sheets.{Sheet, start}
use Rattle.calls.specs.Moves.{Move, descending, replayed}
use Rattle.calls.proofs.Moving as moving
use Rattle.calls.proofs.Moving.{Replayed}
use Rattle.files.specs.Files.{last_byte, record_bytes}
use Rattle.files.specs.Judging.{added, record_read, last_read, ended, going_on, scanned, judged}
use Rattle.files.specs.Theorems.{Headless, NoRecord, NoLastByte, Surplus, Failing}
use Rattle.files.proofs.Kept as kept
use Rattle.files.proofs.Kept.{Kept, Small, told, record_calls}
use Rattle.files.proofs.Saves.{spelled_kept, kept_spelled}
use Rattle.files.proofs.Reading as reading

small_last : {E : Cyclotomic} (rs : List (Record E)) (r : Record E) → Small (rs ++ r ∷ []) → r.descents < 16
small_last [] r h = h.0
small_last (x ∷ rs) r h = small_last rs r h.1

-- ---- a sheet with the records of another, and that other where its cursor has not descended
module _ (E : Cyclotomic) (N : JobNumbers) where
  -- a sheet whose cursor has not descended is where its records' calls lead
  at_advance : (s : Sheet E) → last_byte s.cursor ≡ 0 → Kept E N most_pieces s → Replayed E N most_pieces (flat_map record_calls s.records) (start E N) s
  at_advance s z k = subst (λ ms. Replayed E N most_pieces ms (start E N) s) (ap (λ n. flat_map record_calls s.records ++ replicate n descending) z ∙ append-nil _) k.way

  -- calls on a new sheet that begin with its records' calls go on from it
  ahead : (s t : Sheet E) (ms : List Move) → last_byte s.cursor ≡ 0 → Kept E N most_pieces s → Replayed E N most_pieces (flat_map record_calls s.records ++ ms) (start E N) t → Replayed E N most_pieces ms s t
  ahead s t ms z k r =
      let x = moving.parted E N most_pieces (flat_map record_calls s.records) ms (start E N) t r in
      subst (λ u. Replayed E N most_pieces ms u t) (moving.replayed_alike E N most_pieces _ _ x.0 s x.1 (at_advance s z k)) x.2

  last_goes_on : (s t : Sheet E) → last_byte s.cursor ≡ 0 → Kept E N most_pieces s → Kept E N most_pieces t → t.records ≡ s.records → replayed E N most_pieces (replicate (last_byte t.cursor) descending) s ≡ Some t
  last_goes_on s t z k q e =
      moving.replays E N most_pieces _ s t (ahead s t _ z k (subst (λ rs. Replayed E N most_pieces (flat_map record_calls rs ++ replicate (last_byte t.cursor) descending) (start E N) t) e q.way))

  record_goes_on : (s t : Sheet E) (r : Record E) (tail : List ℕ) → last_byte s.cursor ≡ 0 → Kept E N most_pieces s → Kept E N most_pieces t → t.records ≡ s.records ++ r ∷ [] →
      (u : Sheet E) × (record_read E N s (record_bytes E r ++ tail) ≡ Some u)
  unfolding record_bytes
  record_goes_on s t r tail z k q f =
      let told_so : told t ≡ flat_map record_calls s.records ++ (record_calls r ++ replicate (last_byte t.cursor) descending) =
      ap (λ rs. flat_map record_calls rs ++ replicate (last_byte t.cursor) descending) f
      ∙ ap (λ ms. ms ++ replicate (last_byte t.cursor) descending) (kept.flat_map_snoc record_calls s.records r)
      ∙ append_assoc (flat_map record_calls s.records) _ _ in
      let x = moving.parted E N most_pieces (record_calls r) (replicate (last_byte t.cursor) descending) s t
      (ahead s t _ z k (subst (λ ms. Replayed E N most_pieces ms (start E N) t) told_so q.way)) in
      let y = moving.more E N most_pieces _ x.0 t x.2 in
      let a = reading.added_first E N s x.0 t r [] y.0 f y.1 x.1 in
      (x.0, reading.reads E N r.descents r.laid s x.0 tail (small_last s.records r (subst Small f q.small)) x.1 a.0)

-- ---- a bad file's place
module _ (E : Cyclotomic) (N : JobNumbers) where
  unequal : {A : Type 0} (s : Sheet E) (o : ℕ) → ◌≡◌ {A = Result (Sheet E) ℕ} (Ok s) (Err o) → A
  unequal s o e = absurd cc

  same_place : (o p : ℕ) → ◌≡◌ {A = Result (Sheet E) ℕ} (Err o) (Err p) → o ≡ p
  same_place o p e = cc

-- more than one byte is left
over : (b : ℕ) (bs : List ℕ) → (length (b ∷ bs) == 1) ≡ false → (c : ℕ) × (cs : List ℕ) × (bs ≡ c ∷ cs)
over b [] f = absurd cc
over b (c ∷ cs) f = (c, cs, refl)

module _ (E : Cyclotomic) (N : JobNumbers) (low : N.depth ≤ most_depth) where
  -- where a record is not read, no sheet has such a record
  no_record : (s : Sheet E) (bytes : List ℕ) → record_read E N s bytes ≡ None → last_byte s.cursor ≡ 0 → Kept E N most_pieces s → NoRecord E N s.records bytes
  no_record s bytes f z k t x r tail g h =
      let i = record_goes_on E N s t r tail z k (spelled_kept E N low t x) g in
      let j : ◌≡◌ {A = Option (Sheet E)} None (Some i.0) = sym f ∙ ap (record_read E N s) h ∙ i.1 in
      absurd cc

  -- where the last byte is not read, no sheet has it
  no_last_byte : (s : Sheet E) (bytes : List ℕ) → last_read E N s bytes ≡ None → last_byte s.cursor ≡ 0 → Kept E N most_pieces s → NoLastByte E N s.records bytes
  unfolding last_read
  no_last_byte s bytes f z k t x tail g h =
      let i : last_read E N s bytes ≡ Some t = ap (last_read E N s) h ∙ last_goes_on E N s t z k (spelled_kept E N low t x) g in
      let j : ◌≡◌ {A = Option (Sheet E)} None (Some t) = sym f ∙ i in
      absurd cc

  -- where it is read and more follows, there is more than the save
  surplus : (s v : Sheet E) (b : ℕ) (bytes : List ℕ) → replayed E N most_pieces (replicate b descending) s ≡ Some v → (length (b ∷ bytes) == 1) ≡ false → last_byte s.cursor ≡ 0 → Kept E N most_pieces s →
      Surplus E N s.records (b ∷ bytes)
  surplus s v b bytes f g z k =
      let r = moving.is_replayed E N most_pieces (replicate b descending) s v f in
      let y = reading.descents E N most_pieces b s v r in
      let x = over b bytes g in
      let d : b ≡ last_byte v.cursor = omega (arith, y.1) in
      (v, kept_spelled E N v (kept.kept_replay E N low most_pieces (replicate b descending) s v r k), y.0, (x.0, x.1, ap₂ ◌∷◌ d x.2))

  ends_badly : (count : ℕ) (whole : List ℕ) (o : ℕ) (s : Sheet E) (bytes : List ℕ) (p : ℕ) → ended E N o bytes (last_read E N s bytes) ≡ Err p → last_byte s.cursor ≡ 0 → Kept E N most_pieces s →
      whole ≡ flat_map (record_bytes E) s.records ++ bytes → o ≡ 3 + length (flat_map (record_bytes E) s.records) → length s.records ≡ count → Failing E N count whole p
  unfolding last_read
  ends_badly count whole o s bytes p e z k w l n = go (last_read E N s bytes) refl e
    where
      longer : (bs : List ℕ) (v : Sheet E) → bytes ≡ bs → last_read E N s bs ≡ Some v → (length bs == 1) ≡ false → Surplus E N s.records bs
      longer [] v h f g = absurd cc
      longer (b ∷ bs) v h f g = surplus s v b bs f g z k

      pick : (v : Sheet E) (c : Bool) → last_read E N s bytes ≡ Some v → (length bytes == 1) ≡ c → (if c then Ok v else Err (o + 1)) ≡ Err p → Failing E N count whole p
      pick v true f g e = unequal E N v p e
      pick v false f g e =
          let m : p ≡ 3 + length (flat_map (record_bytes E) s.records) + 1 = omega (arith, same_place E N (o + 1) p e) in
          record { before = s; spelled = kept_spelled E N s k; rest = bytes; read = w; because = inr (inr (m, n, longer bytes v refl f g)) }

      go : (q : Option (Sheet E)) → last_read E N s bytes ≡ q → ended E N o bytes q ≡ Err p → Failing E N count whole p
      go None f e = record { before = s; spelled = kept_spelled E N s k; rest = bytes; read = w; because = inr (inl (sym (same_place E N o p e) ∙ l, n, no_last_byte s bytes f z k)) }
      go (Some v) f e = pick v _ f refl e

  fails : (count : ℕ) (whole : List ℕ) (k o : ℕ) (s : Sheet E) (bytes : List ℕ) (p : ℕ) → scanned E N k o s bytes ≡ Err p → last_byte s.cursor ≡ 0 → Kept E N most_pieces s →
      whole ≡ flat_map (record_bytes E) s.records ++ bytes → o ≡ 3 + length (flat_map (record_bytes E) s.records) → length s.records + k ≡ count → Failing E N count whole p
  unfolding scanned
  fails count whole zero o s bytes p e z k w l n = ends_badly count whole o s bytes p e z k w l (omega arith)
  fails count whole (suc c) o s bytes p e z k w l n = go (record_read E N s bytes) refl e (λ o v bs. fails count whole c o v bs p)
    where
      go : (q : Option (Sheet E)) → record_read E N s bytes ≡ q → going_on E N o q (λ u. scanned E N c (o + length (added E N s u)) u (drop (length (added E N s u)) bytes)) ≡ Err p →
          ((o : ℕ) (v : Sheet E) (bs : List ℕ) → scanned E N c o v bs ≡ Err p → last_byte v.cursor ≡ 0 → Kept E N most_pieces v → whole ≡ flat_map (record_bytes E) v.records ++ bs → o ≡ 3 + length (flat_map (record_bytes E) v.records) → length v.records + c ≡ count → Failing E N count whole p) →
          Failing E N count whole p
      go None f e ih = record { before = s; spelled = kept_spelled E N s k; rest = bytes; read = w; because = inl (sym (same_place E N o p e) ∙ l, omega arith, no_record s bytes f z k) }
      go (Some v) f e ih =
          let x = reading.record_is_read E N low s bytes v f k in
          let m : flat_map (record_bytes E) v.records ≡ flat_map (record_bytes E) s.records ++ record_bytes E x.0 = ap (flat_map (record_bytes E)) x.1 ∙ kept.flat_map_snoc (record_bytes E) s.records x.0 in
          ih _ v _ e x.2 x.4
          (w ∙ ap (◌++◌ (flat_map (record_bytes E) s.records)) x.3 ∙ sym (append_assoc (flat_map (record_bytes E) s.records) _ _) ∙ ap (λ y. y ++ drop (length (added E N s v)) bytes) (sym m))
          (omega (arith, ap length m ∙ length-append (flat_map (record_bytes E) s.records) _, ap length (reading.added_one E N s v x.0 x.1)))
          (omega (arith, ap length x.1 ∙ length-append s.records (x.0 ∷ [])))

  pub placing : (file : List ℕ) (place : ℕ) → judged E N file ≡ Err place → ((place ≡ 0) × Headless N file) ⊎ Failing E N (get_or file 1 0 * 256 + get_or file 2 0) (drop 3 file) place
  unfolding judged start
  placing [] p e = inl (sym (same_place E N 0 p e), tt)
  placing (d ∷ []) p e = inl (sym (same_place E N 0 p e), tt)
  placing (d ∷ high ∷ []) p e = inl (sym (same_place E N 0 p e), tt)
  placing (d ∷ high ∷ low_byte ∷ bytes) p e = go ((d == N.depth) && nat_le (high * 256 + low_byte) most_pieces) refl e
    where
      go : (b : Bool) → ((d == N.depth) && nat_le (high * 256 + low_byte) most_pieces) ≡ b → (if b then scanned E N (high * 256 + low_byte) 3 (start E N) bytes else Err 0) ≡ Err p →
          ((p ≡ 0) × (d ≡ N.depth → high * 256 + low_byte ≤ most_pieces → ⊥)) ⊎ Failing E N (high * 256 + low_byte) bytes p
      go true f e = inr (fails (high * 256 + low_byte) bytes (high * 256 + low_byte) 3 (start E N) bytes p e (kept.fresh (seed_on N 0)) (kept.kept_start E N most_pieces) refl refl (omega arith))
      go false f e = inl (sym (same_place E N 0 p e), λ g h. let x : ((d == N.depth) && nat_le (high * 256 + low_byte) most_pieces) ≡ true = ap₂ ◌&&◌ (eq-eqb _ _ g) (le-leb _ _ h) in absurd cc)
