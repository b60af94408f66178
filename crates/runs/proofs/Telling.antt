-- A sheet tells the accepted calls that lead to it: no others do.
use Rattle.std.proofs.Common.{◌≡◌, ℕ, List, [], ◌∷◌, ◌++◌, replicate, Some, None, Option, sym, ap, ap₂, ◌∙◌, append_assoc, append-nil, flat_map}
use Rattle.std.proofs.lemmas.List.{replicate-append-replicate}
use Rattle.exact.specs.Cyclotomic.{Cyclotomic}
use Rattle.exact.specs.JobNumbers.{JobNumbers}
use Rattle.chains.specs.Books.{Placement}
use Rattle.chains.specs.Addresses.{seed_on, advance}
use Rattle.calls.specs.Sheets.{Cursor, Sheet, recorded, start}
use Rattle.calls.specs.Moves.{Move, descending}
use Rattle.calls.proofs.Moving.{Moved, Replayed}
use Rattle.calls.proofs.Moving as moving
use Rattle.files.specs.Files.{last_byte}
use Rattle.files.proofs.Kept.{told, record_calls, fresh, told_descended, told_recorded}

pub told_alike : {E : Cyclotomic} (s t : Sheet E) → s.records ≡ t.records → last_byte s.cursor ≡ last_byte t.cursor → told s ≡ told t
told_alike s t e f = ap₂ (λ rs n. flat_map record_calls rs ++ replicate n descending) e f

module _ (E : Cyclotomic) (N : JobNumbers) where
  -- a call more
  told_moved : (places : ℕ) (m : Move) (s t : Sheet E) → Moved E N places m s t → told t ≡ told s ++ m ∷ []
  told_moved places _ _ _ (moving.descends s c e below) = told_descended E N s c e
  told_moved places _ _ _ (moving.lays s c p e at room f) = told_recorded E N s c (Some p) e
  told_moved places _ _ _ (moving.sets_aside s c e room) = told_recorded E N s c None e

  told_replayed : (places : ℕ) (ms : List Move) (s t : Sheet E) → Replayed E N places ms s t → told t ≡ told s ++ ms
  told_replayed places _ _ _ (moving.done s) = sym (append-nil (told s))
  told_replayed places _ _ _ (moving.on m ms s t u h r) = told_replayed places ms t u r ∙ ap (λ z. z ++ ms) (told_moved places m s t h) ∙ append_assoc (told s) (m ∷ []) ms

  -- on a new sheet
  pub told_by : (places : ℕ) (ms : List Move) (t : Sheet E) → Replayed E N places ms (start E N) t → told t ≡ ms
  unfolding start
  told_by places ms t r = told_replayed places ms (start E N) t r ∙ ap (λ n. replicate n descending ++ ms) (fresh (seed_on N 0))

  pub same_calls : (p q : ℕ) (ms ns : List Move) (t : Sheet E) → Replayed E N p ms (start E N) t → Replayed E N q ns (start E N) t → ms ≡ ns
  same_calls p q ms ns t h k = sym (told_by p ms t h) ∙ told_by q ns t k
