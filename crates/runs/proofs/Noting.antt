-- What the calls about the nodes note of them.
use Rattle.std.proofs.Common.{◌≡◌, ℕ, ◌≤◌, List, [], ◌∷◌, ◌++◌, length, Ok, Err, Result, sym, refl, ap, ◌∙◌, subst, arith}
use Rattle.exact.specs.Cyclotomic.{Cyclotomic}
use Rattle.exact.specs.JobNumbers.{JobNumbers}
use Rattle.calls.specs.Sheets.{Sheet, Why}
use Rattle.calls.specs.Moves.{Move, descending, laying, setting_aside, moved}
use Rattle.calls.proofs.Moving.{Moved, Replayed, is_moved, moves, all_fit}
use Rattle.calls.proofs.Moving as moving
use Rattle.runs.specs.Runs.{State, noted, noted_if, done, settled, retraced}

module _ (E : Cyclotomic) (N : JobNumbers) where
  -- an accepted move
  pub noted_sheet : (m : Move) (s : State E) (u : Sheet E) → (noted E N m s u).sheet ≡ u
  noted_sheet descending s u = refl
  noted_sheet laying s u = refl
  noted_sheet setting_aside s u = refl

  pub done_means : (places : ℕ) (m : Move) (s t : State E) → done E N places m s ≡ Ok t → (u : Sheet E) × Moved E N places m s.sheet u × (noted E N m s u ≡ t)
  unfolding done
  done_means places m s t e = go (moved E N places m s.sheet) refl e
    where
      go : (o : Result (Sheet E) Why) → moved E N places m s.sheet ≡ o → noted_if E N m s o ≡ Ok t → (u : Sheet E) × Moved E N places m s.sheet u × (noted E N m s u ≡ t)
      go (Ok u) f e = (u, is_moved E N places m s.sheet u f, cc)
      go (Err w) f e = absurd cc

  pub does : (places : ℕ) (m : Move) (s : State E) (u : Sheet E) → Moved E N places m s.sheet u → done E N places m s ≡ Ok (noted E N m s u)
  unfolding done
  does places m s u h = ap (noted_if E N m s) (moves E N places m s.sheet u h)

  -- a move where there is room for the records that it leads to
  fits_alone : (p q : ℕ) (m : Move) (a b : Sheet E) → Moved E N p m a b → length b.records ≤ q → Moved E N q m a b
  fits_alone p q m a b h l = only (all_fit E N p q (m ∷ []) a b (moving.on m [] a b b h (moving.done b)) l)
    where
      last : (c : Sheet E) → Replayed E N q [] c b → Moved E N q m a c → Moved E N q m a b
      last _ (moving.done _) h = h

      only : Replayed E N q (m ∷ []) a b → Moved E N q m a b
      only (moving.on _ _ _ c _ h r) = last c r h

  -- ---- several moves
  pub retraced_on : (places : ℕ) (m : Move) (ms : List Move) (s : State E) (u : Sheet E) → Moved E N places m s.sheet u → retraced E N places (m ∷ ms) s ≡ retraced E N places ms (noted E N m s u)
  unfolding retraced
  retraced_on places m ms s u h = ap (λ r. retraced E N places ms (settled E N s r)) (does places m s u h)

  -- one move more
  pub retraced_then : (places : ℕ) (ms : List Move) (m : Move) (s : State E) → retraced E N places (ms ++ m ∷ []) s ≡ settled E N (retraced E N places ms s) (done E N places m (retraced E N places ms s))
  unfolding retraced
  retraced_then places [] m s = refl
  retraced_then places (k ∷ ms) m s = retraced_then places ms m (settled E N s (done E N places k s))

  -- moves that are all accepted lead to the sheet that they lead to
  pub retraced_sheet : (places : ℕ) (ms : List Move) (a b : Sheet E) → Replayed E N places ms a b → (s : State E) → s.sheet ≡ a → (retraced E N places ms s).sheet ≡ b
  unfolding retraced
  retraced_sheet places _ _ _ (moving.done a) s e = e
  retraced_sheet places _ _ _ (moving.on m ms a u b h r) s e =
      ap (λ (z : State E). z.sheet) (retraced_on places m ms s u (subst (λ z. Moved E N places m z u) (sym e) h)) ∙ retraced_sheet places ms u b r (noted E N m s u) (noted_sheet m s u)

  -- and do so wherever there is room for the records
  pub retraced_alike : (p q : ℕ) (ms : List Move) (a b : Sheet E) → Replayed E N p ms a b → length b.records ≤ q → (s : State E) → s.sheet ≡ a → retraced E N q ms s ≡ retraced E N p ms s
  unfolding retraced
  retraced_alike p q _ _ _ (moving.done a) l s e = refl
  retraced_alike p q _ _ _ (moving.on m ms a u b h r) l s e =
      let k = subst (λ z. Moved E N p m z u) (sym e) h in
      retraced_on q m ms s u (fits_alone p q m s.sheet u k (omega (arith, moving.grows E N p ms u b r)))
      ∙ retraced_alike p q ms u b r l (noted E N m s u) (noted_sheet m s u)
      ∙ sym (retraced_on p m ms s u k)
