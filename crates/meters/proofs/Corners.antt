-- The corner that a step comes to, and what keeps it on the plane.
use Rattle.std.proofs.Common.{◌≡◌, ℕ, true, ◌&&◌, sym, subst}
use Rattle.std.proofs.lemmas.Bool.{and_parts, and_from}
use Rattle.exact.specs.Cyclotomic.{Cyclotomic}
use Rattle.chains.specs.Books.{Book, Placement}
use Rattle.chains.specs.Edges.{along}
use Rattle.edges.specs.Working.{KeptImage, KeptAlong}
use Rattle.nodes.specs.OnPlane.{kept_along, kept_image}
use Rattle.nodes.proofs.Testing.{image_yes, yes_image, along_yes, yes_along}

-- z is the corner as the code has it
module _ (E : Cyclotomic) (B : Book E) (p : Placement E) (e j : ℕ) (q : E.Elem) where
  pub step_kept : (kept_along E B e j q && kept_image E p (along E B e j q)) ≡ true → KeptAlong E B e j q
  step_kept h = along_yes E B e j q (and_parts _ _ h).0

  pub place_kept : (z : E.Elem) → z ≡ along E B e j q → (kept_along E B e j q && kept_image E p (along E B e j q)) ≡ true → KeptImage E p z
  place_kept z same h = subst (KeptImage E p) (sym same) (image_yes E p _ (and_parts _ _ h).1)

  pub both_kept : (z : E.Elem) → z ≡ along E B e j q → KeptAlong E B e j q → KeptImage E p z → (kept_along E B e j q && kept_image E p (along E B e j q)) ≡ true
  both_kept z same h k = and_from _ _ (yes_along E B e j q h) (yes_image E p _ (subst (KeptImage E p) same k))
