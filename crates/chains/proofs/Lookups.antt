-- What holds of every label and tile of a book holds also of the empty ones beyond the last.
use Rattle.std.proofs.Common.{◌≡◌, ℕ, zero, suc, ◌<◌, false, List, [], ◌∷◌, length, get_or, sym, refl, arith}
use mathlib.Core.List.{flat_map}
use Rattle.exact.specs.Cyclotomic.{Cyclotomic, CyclotomicLaws}
use Rattle.exact.proofs.Powers.{ring_of}
use Rattle.exact.proofs.Solver as solver
use Rattle.chains.specs.Books.{Label, Tile, Book, label_at}
use Rattle.chains.specs.Edges.{SameNet, walk}
use Rattle.chains.specs.Inflation.{inflate}
use Rattle.chains.specs.Placements.{outline, outlines}
use Rattle.chains.specs.Accepted.{lengths, backwards, SubdivisionFits, ChildrenBalance}
use Rattle.chains.specs.Theorems.{RealLengths}
use Rattle.chains.proofs.Turns.{conj_zero}

everywhere : {X : Type 0} (P : X → Type 0) (xs : List X) (d : X) → P d → ((i : ℕ) → i < length xs → P (get_or xs i d)) → (i : ℕ) → P (get_or xs i d)
everywhere P [] d p h i = p
everywhere P (x ∷ xs) d p h zero = h 0 (omega arith)
everywhere P (x ∷ xs) d p h (suc i) = everywhere P xs d p (λ k l. h (suc k) (omega arith)) i

module _ (E : Cyclotomic) (L : CyclotomicLaws E) (B : Book E) where
  pub real_everywhere : RealLengths E B → (e : ℕ) → E.conj (label_at B e).length ≡ (label_at B e).length
  real_everywhere = everywhere (λ (l : Label E). E.conj l.length ≡ l.length) B.labels _ (conj_zero E L)

  pub adds_everywhere : ((e : ℕ) → e < length B.labels → SubdivisionFits E B e) → (e : ℕ) → lengths E B (label_at B e).subdivision ≡ E.mul B.factor (label_at B e).length
  unfolding lengths
  adds_everywhere h = everywhere (λ (l : Label E). lengths E B l.subdivision ≡ E.mul B.factor l.length) B.labels _ (sym (solver.mul_zero (ring_of E L) _)) (λ e k. (h e k).lengths_add)

  pub palindrome_everywhere : ((e : ℕ) → e < length B.labels → SubdivisionFits E B e) → (e : ℕ) → (label_at B e).arrowed ≡ false → backwards E B (label_at B e).subdivision ≡ (label_at B e).subdivision
  unfolding backwards
  palindrome_everywhere h = everywhere (λ (l : Label E). l.arrowed ≡ false → backwards E B l.subdivision ≡ l.subdivision) B.labels _ (λ _. refl) (λ e k. (h e k).palindrome)

  pub balance_everywhere : ((t : ℕ) → t < length B.tiles → ChildrenBalance E B t) → (t : ℕ) → ChildrenBalance E B t
  unfolding outline outlines walk inflate flat_map
  balance_everywhere h = everywhere (λ (u : Tile E). SameNet E B (outlines E B u.children) (inflate E B (walk E B u.outline E.zero))) B.tiles _ (λ y. refl) h
