-- What a test of two sums and one of a palindrome say of a subdivision.
use Rattle.std.proofs.Common.{◌≡◌, ℕ, Bool, true, false, List, Ok, Decides, sym, refl, ap, ◌∙◌, subst, true≢false}
use mathlib.Core.Bool.{false≢true}
use Rattle.exact.specs.Cyclotomic.{Cyclotomic}
use Rattle.exact.specs.JobNumbers.{Part}
use Rattle.rings.specs.Plane.{OnPlane}
use Rattle.chains.specs.Books.{Book, label_at}
use Rattle.chains.specs.Accepted.{lengths, backwards, SubdivisionFits}
use Rattle.book.specs.Points.{KeptLengths, KeptSubdivision, Tested, Tells}

module _ (E : Cyclotomic) (B : Book E) (e : ℕ) (parts : List Part) (long : E.Elem) (p : parts ≡ (label_at B e).subdivision) (l : long ≡ (label_at B e).length) where
  pub sums_at : KeptSubdivision E B e → KeptLengths E B parts
  sums_at k = subst (KeptLengths E B) (sym p) k.sums

  pub stretched_at : KeptSubdivision E B e → OnPlane E (E.mul B.factor long)
  stretched_at k = subst (λ z. OnPlane E (E.mul B.factor z)) (sym l) k.stretched

  module _ (t : Bool) (d : Decides t (lengths E B parts ≡ E.mul B.factor long)) where
    pub unfilled : t ≡ false → Tested (Ok false) (SubdivisionFits E B e) (KeptSubdivision E B e)
    unfilled h = record { is = λ s. true≢false (sym (d.1 (ap (lengths E B) p ∙ s.lengths_add ∙ sym (ap (E.mul B.factor) l))) ∙ h) }

    module _ (h : t ≡ true) (k : KeptLengths E B parts) (m : OnPlane E (E.mul B.factor long)) where
      kept : KeptSubdivision E B e
      kept = record { sums = subst (KeptLengths E B) p k; stretched = subst (λ z. OnPlane E (E.mul B.factor z)) l m }

      filled : lengths E B (label_at B e).subdivision ≡ E.mul B.factor (label_at B e).length
      filled = sym (ap (lengths E B) p) ∙ d.0 h ∙ ap (E.mul B.factor) l

      pub arrowed_fits : (label_at B e).arrowed ≡ true → Tested (Ok true) (SubdivisionFits E B e) (KeptSubdivision E B e)
      arrowed_fits a = record { is = (record { lengths_add = filled; palindrome = λ n. absurd (true≢false (sym a ∙ n)) }, kept) }

      told : (b : Bool) → (label_at B e).arrowed ≡ false → Decides b (backwards E B parts ≡ parts) → Tells b (SubdivisionFits E B e) (KeptSubdivision E B e)
      told true a q = (record { lengths_add = filled; palindrome = λ _. subst (λ ps. backwards E B ps ≡ ps) p (q.0 refl) }, kept)
      told false a q = λ s. false≢true (q.1 (subst (λ ps. backwards E B ps ≡ ps) (sym p) (s.palindrome a)))

      pub plain_fits : (b : Bool) → (label_at B e).arrowed ≡ false → Decides b (backwards E B parts ≡ parts) → Tested (Ok b) (SubdivisionFits E B e) (KeptSubdivision E B e)
      plain_fits b a q = record { is = told b a q }
