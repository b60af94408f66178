-- Values counted once, forward or backward.
use Rattle.std.proofs.Common.{◌≡◌, Bool, true, false, cond, ℤ, pos, negsuc, neg_ℤ, sym, refl, ap, ◌∙◌, ap₂, true≢false}
use mathlib.Core.Bool.{beq, false≢true}
use Rattle.exact.specs.Cyclotomic.{Cyclotomic}
use Rattle.exact.specs.Groups.{AbelianGroup, AbelianLaws, repeated, times}
use Rattle.exact.specs.JobNumbers.{Step}
use Rattle.chains.specs.Counts.{Counted}
use Rattle.chains.specs.Books.{Book, Placement}
use Rattle.chains.specs.Edges.{Edge, step_count}
use Rattle.chains.specs.Placements.{signed, placed_entry}
use Rattle.edges.proofs.Entries.{goes_forward, goes_back}

-- the sign of a step, as a mirror has it
abbrev sign : Bool → Bool → ℤ
sign f m = cond m (neg_ℤ (cond f (pos 1) (negsuc 0))) (cond f (pos 1) (negsuc 0))

sign_back : (f m : Bool) → beq f m ≡ true → sign f m ≡ negsuc 0
sign_back true true h = refl
sign_back true false h = absurd (false≢true h)
sign_back false true h = absurd (false≢true h)
sign_back false false h = refl

sign_once : (f m : Bool) → beq f m ≡ false → sign f m ≡ pos 1
sign_once true true h = absurd (true≢false h)
sign_once true false h = refl
sign_once false true h = refl
sign_once false false h = absurd (true≢false h)

module _ (G : AbelianGroup) (L : AbelianLaws G) where
  once : (x : G.Val) → times G (pos 1) x ≡ x
  unfolding times repeated
  once x = L.sum_zero x

  once_back : (x : G.Val) → times G (negsuc 0) x ≡ G.opposite x
  unfolding times repeated
  once_back x = ap G.opposite (L.sum_zero x)

module _ (E : Cyclotomic) (B : Book E) (p : Placement E) (s : Step) (q : E.Elem) where
  abbrev pub entry : Counted (Edge E)
  entry = placed_entry E p (step_count E B s q)

  sign_is : (f : Bool) → s.forward ≡ f → entry.count ≡ sign f p.mirrored
  unfolding placed_entry signed
  sign_is true e = ap (λ (c : Counted (Edge E)). signed E p c.count) (goes_forward E B s q e)
  sign_is false e = ap (λ (c : Counted (Edge E)). signed E p c.count) (goes_back E B s q e)

  module _ (G : AbelianGroup) (L : AbelianLaws G) (r : Edge E → G.Val) (x : G.Val) (a : Edge E) (told : x ≡ r a) (same : a ≡ entry.what) where
    -- what the edge reads, with the opposite for a step that is counted back
    counted : (c : ℤ) → entry.count ≡ c → times G c (r a) ≡ times G entry.count (r entry.what)
    counted c e = ap₂ (λ k w. times G k (r w)) (sym e) same

    pub counted_back : beq s.forward p.mirrored ≡ true → (y : G.Val) → y ≡ G.opposite x → y ≡ times G entry.count (r entry.what)
    counted_back h y e = e ∙ ap G.opposite told ∙ sym (once_back G L (r a)) ∙ counted (negsuc 0) (sign_is s.forward refl ∙ sign_back s.forward p.mirrored h)

    pub counted_once : beq s.forward p.mirrored ≡ false → x ≡ times G entry.count (r entry.what)
    counted_once h = told ∙ sym (once G L (r a)) ∙ counted (pos 1) (sign_is s.forward refl ∙ sign_once s.forward p.mirrored h)
