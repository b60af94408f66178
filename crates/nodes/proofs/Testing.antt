-- The tests that compute say what the facts say.
use Rattle.std.proofs.Common.{◌≡◌, ℕ, Bool, true, false, cond, not, List, [], ◌∷◌, ℤ, Some, None, Option, MatchOption, IsErrAnd, Ok, Err, Result, subst, refl, ◌∙◌, le-leb, leb-true}
use mathlib.Core.Bool.{beq}
use Rattle.std.proofs.lemmas.Bool.{and_parts, and_from}
use Rattle.std.specs.Option.{ok_or}
use Rattle.exact.specs.Cyclotomic.{Cyclotomic}
use Rattle.exact.specs.Sizes.{Within}
use Rattle.exact.proofs.Sizes.{between_abs, abs_between}
use Rattle.rings.specs.Plane.{plane_bound, OnPlane}
use Rattle.rings.specs.declared.fault.RingFault.{RingFault}
use Rattle.rings.specs.declared.fault.RingFault.TheVariants.{OffPlane}
use Rattle.chains.specs.Books.{Book, Placement}
use Rattle.chains.specs.Placements.{stretched}
use Rattle.edges.specs.Answers.{Worked}
use Rattle.edges.specs.Working.{KeptImage, KeptAlong}
use Rattle.nodes.specs.OnPlane.{small, on_plane, kept_image, kept_child, kept_along}

small_in : (s : ℕ) (l : List ℤ) → small s l ≡ true → Within s l
unfolding small
small_in s [] h = tt
small_in s (c ∷ cs) h = let p = and_parts _ _ h in (abs_between s c (leb-true _ _ p.0), small_in s cs p.1)

in_small : (s : ℕ) (l : List ℤ) → Within s l → small s l ≡ true
unfolding small
in_small s [] h = refl
in_small s (c ∷ cs) h = and_from _ _ (le-leb _ _ (between_abs s c h.0)) (in_small s cs h.1)

module _ (E : Cyclotomic) where
  pub plane_yes : (x : E.Elem) → on_plane E x ≡ true → OnPlane E x
  unfolding on_plane
  plane_yes x h = small_in plane_bound (E.list x) h

  pub yes_plane : (x : E.Elem) → OnPlane E x → on_plane E x ≡ true
  unfolding on_plane
  yes_plane x h = in_small plane_bound (E.list x) h

  pub image_yes : (p : Placement E) (z : E.Elem) → kept_image E p z ≡ true → KeptImage E p z
  unfolding kept_image
  image_yes p z h = let a = and_parts _ _ h in let b = and_parts _ _ a.0 in (plane_yes _ b.0, plane_yes _ b.1, plane_yes _ a.1)

  pub yes_image : (p : Placement E) (z : E.Elem) → KeptImage E p z → kept_image E p z ≡ true
  unfolding kept_image
  yes_image p z h = and_from _ _ (and_from _ _ (yes_plane _ h.0) (yes_plane _ h.1)) (yes_plane _ h.2)

  module _ (B : Book E) where
    pub along_yes : (e j : ℕ) (q : E.Elem) → kept_along E B e j q ≡ true → KeptAlong E B e j q
    unfolding kept_along
    along_yes e j q h = let a = and_parts _ _ h in (plane_yes _ a.0, plane_yes _ a.1)

    pub yes_along : (e j : ℕ) (q : E.Elem) → KeptAlong E B e j q → kept_along E B e j q ≡ true
    unfolding kept_along
    yes_along e j q h = and_from _ _ (yes_plane _ h.0) (yes_plane _ h.1)

    pub child_yes : (p c : Placement E) → kept_child E B p c ≡ true → OnPlane E (E.mul B.factor p.place) × KeptImage E (stretched E B p) c.place
    unfolding kept_child
    child_yes p c h = let a = and_parts _ _ h in (plane_yes _ a.0, image_yes _ _ a.1)

    pub yes_child : (p c : Placement E) → OnPlane E (E.mul B.factor p.place) → KeptImage E (stretched E B p) c.place → kept_child E B p c ≡ true
    unfolding kept_child
    yes_child p c a b = and_from _ _ (yes_plane _ a) (yes_image _ _ b)

-- an option that a `?` takes, with an error in place of none
module _ {A F : Type 0} (e : F) (P : Type 0) (Q : A → Type 0) where
  pub no_value : (o : Option A) (f : F) → ◌≡◌ {A = Result A F} (Err f) (ok_or o e) → MatchOption o P Q → (f ≡ e) × P
  no_value None f h m = (cc, m)
  no_value (Some x) f h m = cc

  pub a_value : (o : Option A) (x : A) → ◌≡◌ {A = Result A F} (Ok x) (ok_or o e) → MatchOption o P Q → Q x
  a_value None x h m = cc
  a_value (Some y) x h m = let z : y ≡ x = cc in subst Q z m

-- the exit of a `?`: where one of the values is off the plane
pub off_at : {A : Type 0} (r : Result A RingFault) (P : A → Type 0) (K K' : Type 0) (f : RingFault) → IsErrAnd r (λ y. y ≡ f) → (K' → K) → (f ≡ OffPlane) × (K → ⊥) → Worked r P K'
off_at (Ok x) P K K' f h k n = absurd h
off_at (Err y) P K K' f h k n = record { is = (h ∙ n.0, λ z. n.1 (k z)) }

pub not_same : (a b : Bool) → not (beq a b) ≡ cond b (not a) a
not_same true true = refl
not_same true false = refl
not_same false true = refl
not_same false false = refl
