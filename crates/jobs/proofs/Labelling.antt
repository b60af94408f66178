-- Heads and subdivisions, put together one after the other.
use Rattle.std.proofs.Common.{◌≡◌, ℕ, ◌≤◌, Bool, ◌⊎◌, List, [], ◌∷◌, ◌++◌, map, length, ℤ, vec_items, sym, refl, ap, ◌∙◌, subst, ap₂, ⊎_elim, append-nil, append_assoc, arith}
use Rattle.std.specs.Global.{Vec}
use Rattle.std.specs.List.{AllByRecursion}
use Rattle.std.proofs.lemmas.List.{length-map, map_push}
use Rattle.exact.specs.JobNumbers.{LabelNumbers, Part as PartNumbers}
use Rattle.job_rows.specs.declared.Label.{Label}
use Rattle.job_rows.specs.declared.Part.{Part}
use Rattle.job_rows.specs.Limits.{most_parts}
use Rattle.job_rows.specs.Shapes.{part_of}
use Rattle.jobs.specs.declared.draft.Head.{Head as HeadRow}
use Rattle.jobs.specs.Drafts.{head_of}
use Rattle.jobs.specs.Fronts.{labelled}
use Rattle.jobs.specs.Ranges.{LabelFits}
use Rattle.jobs.specs.Rows.{label_of}

abbrev pub parts_of : Vec Part → List PartNumbers
parts_of v = map part_of (vec_items v)

abbrev pub Short : Vec Part → Type 0
Short v = length (vec_items v) ≤ most_parts

-- what is put together so far, and what is left
pub record Joined (labels : List (Label (Vec ℤ))) (hs : List HeadRow) (vs : List (Vec Part)) (all : List LabelNumbers) : Type 0 where
  pub whole : map label_of labels ++ labelled (map head_of hs) (map parts_of vs) ≡ all
  pub paired : length hs ≡ length vs
  pub short : AllByRecursion Short vs

pub join_start : (labels : List (Label (Vec ℤ))) (hs hs' : List HeadRow) (vs vs' : List (Vec Part)) → labels ≡ [] → hs ≡ hs' → vs ≡ vs' → length hs' ≡ length vs' → AllByRecursion Short vs' → Joined labels hs vs (labelled (map head_of hs') (map parts_of vs'))
join_start labels hs hs' vs vs' n h v e a = record {
  whole = λ i. map label_of (n i) ++ labelled (map head_of (h i)) (map parts_of (v i));
  paired = ap length h ∙ e ∙ sym (ap length v);
  short = subst (AllByRecursion Short) (sym v) a;
}

-- the next label has a short subdivision
pub next_short : (labels : List (Label (Vec ℤ))) (hs : List HeadRow) (vs vs' : List (Vec Part)) (v : Vec Part) (all : List LabelNumbers) → Joined labels hs vs all → vs ≡ v ∷ vs' → Short v
next_short labels hs vs vs' v all p e = (subst (AllByRecursion Short) e p.short).0

pub join_more : (labels labels' : List (Label (Vec ℤ))) (l : Label (Vec ℤ)) (hs hs' : List HeadRow) (h : HeadRow) (vs vs' : List (Vec Part)) (v : Vec Part) (all : List LabelNumbers) → Joined labels hs vs all → hs ≡ h ∷ hs' → vs ≡ v ∷ vs'
    → labels' ≡ labels ++ l ∷ [] → label_of l ≡ record { arrowed = h.arrowed; length = vec_items h.length; subdivision = parts_of v } → Joined labels' hs' vs' all
join_more labels labels' l hs hs' h vs vs' v all p eh ev el e = record {
  whole = ap (λ t. t ++ labelled (map head_of hs') (map parts_of vs')) (ap (map label_of) el ∙ map_push label_of labels l ∙ ap (λ x. map label_of labels ++ x ∷ []) e)
      ∙ append_assoc (map label_of labels) _ _ ∙ ap₂ (λ hs vs. map label_of labels ++ labelled (map head_of hs) (map parts_of vs)) (sym eh) (sym ev) ∙ p.whole;
  paired = let a = p.paired in let b = ap length eh in let c = ap length ev in omega arith;
  short = (subst (AllByRecursion Short) ev p.short).1;
}

pub join_all : (labels : List (Label (Vec ℤ))) (hs : List HeadRow) (vs : List (Vec Part)) (all : List LabelNumbers) → Joined labels hs vs all → (length hs ≡ 0) ⊎ (length vs ≡ 0) → map label_of labels ≡ all
join_all labels hs vs all p e = ended hs vs (⊎_elim (λ z. z) (λ z. p.paired ∙ z) e) p.whole
  where
    ended : (hs : List HeadRow) (vs : List (Vec Part)) → length hs ≡ 0 → map label_of labels ++ labelled (map head_of hs) (map parts_of vs) ≡ all → map label_of labels ≡ all
    ended [] vs z w = sym (append-nil _) ∙ w
    ended (h ∷ hs) vs z w = absurd (omega arith)

-- labels that fit have each a subdivision, and a short one
pub divided : (ks : List Bool) (d : ℕ) (hs : List HeadRow) (vs : List (Vec Part)) → AllByRecursion (LabelFits ks d) (labelled (map head_of hs) (map parts_of vs)) → length vs ≤ length hs → (length hs ≡ length vs) × AllByRecursion Short vs
divided ks d [] [] a l = (refl, tt)
divided ks d [] (v ∷ vs) a l = absurd (omega arith)
divided ks d (h ∷ hs) [] a l = absurd (omega (arith, a.0.1.0))
divided ks d (h ∷ hs) (v ∷ vs) a l =
    let r = divided ks d hs vs a.1 (omega arith) in
    let n = length-map (vec_items v) part_of in
    (omega (arith, r.0), (omega (arith, a.0.1.1), r.1))
