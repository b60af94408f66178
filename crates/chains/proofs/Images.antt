-- What placements do to points, directions and counts, one at a time and a child under its parent.
use Rattle.std.proofs.Common.{◌≡◌, ℕ, ◌+◌, ◌%◌, Bool, true, false, cond, not, [], ◌∷◌, ℤ, ◌*ℤ◌, sym, refl, ap, ◌∙◌, ap₂}
use lib.IntN.{neg_ℤ-neg_ℤ}
use Rattle.exact.specs.Cyclotomic.{Cyclotomic, CyclotomicLaws, power, half}
use Rattle.chains.specs.Counts.{Counted}
use Rattle.chains.specs.Books.{Book, Placement}
use Rattle.chains.specs.Edges.{Edge, Chain}
use Rattle.chains.specs.Placements.{image, heading, signed, placed_edge, placed_entry, placed, stretched, child_of}
use Rattle.rings.proofs.Multiples as groups
use Rattle.chains.proofs.Turns as turns
use Rattle.chains.proofs.Edges.{edge_path, counted_path}

-- A lemma that splits on a placement's mark takes the placement's four parts.
abbrev pub put : {E : Cyclotomic} → ℕ → ℕ → Bool → E.Elem → Placement E
put t k m P = record { tile = t; turn = k; mirrored = m; place = P }

module _ (E : Cyclotomic) (L : CyclotomicLaws E) where
  pub heading_mod : (t k : ℕ) (m : Bool) (P : E.Elem) (j : ℕ) → heading E (put t k m P) j % E.n ≡ heading E (put t k m P) j
  unfolding heading
  heading_mod t k false P j = turns.plus_mod E L k j
  heading_mod t k true P j = turns.minus_mod E L k j

  pub heading_of_mod : (t k : ℕ) (m : Bool) (P : E.Elem) (j : ℕ) → heading E (put t k m P) (j % E.n) ≡ heading E (put t k m P) j % E.n
  unfolding heading
  heading_of_mod t k false P j = turns.plus_of_mod E L k j
  heading_of_mod t k true P j = turns.minus_of_mod E L k j

  pub heading_opposed : (t k : ℕ) (m : Bool) (P : E.Elem) (j : ℕ) → heading E (put t k m P) ((j + half E) % E.n) ≡ (heading E (put t k m P) j + half E) % E.n
  unfolding heading
  heading_opposed t k false P j = turns.plus_opposed E L k j
  heading_opposed t k true P j = turns.minus_opposed E L k j

  pub mul_sign : (t k : ℕ) (m : Bool) (P : E.Elem) (c d : ℤ) → c *ℤ signed E (put t k m P) d ≡ signed E (put t k m P) (c *ℤ d)
  unfolding signed
  mul_sign t k false P c d = refl
  mul_sign t k true P c d = groups.mul_negated c d

  pub sign_mul : (t k : ℕ) (m : Bool) (P : E.Elem) (c d : ℤ) → signed E (put t k m P) c *ℤ d ≡ signed E (put t k m P) (c *ℤ d)
  unfolding signed
  sign_mul t k false P c d = refl
  sign_mul t k true P c d = groups.negated_mul c d

  -- the image of a sum is the image of one part, and the other turned
  pub image_sum : (t k : ℕ) (m : Bool) (P q z : E.Elem) → image E (put t k m P) (E.add q z) ≡ E.add (image E (put t k m P) q) (E.mul (power E k) (cond m (E.conj z) z))
  unfolding image
  image_sum t k false P q z = ap (E.add P) (L.ring.mul_add _ _ _) ∙ sym (L.ring.add_assoc _ _ _)
  image_sum t k true P q z = ap (E.add P) (ap (E.mul (power E k)) (L.conj_add q z) ∙ L.ring.mul_add _ _ _) ∙ sym (L.ring.add_assoc _ _ _)

  pub turned_power : (t k : ℕ) (m : Bool) (P : E.Elem) (j : ℕ) → E.mul (power E k) (cond m (E.conj (power E j)) (power E j)) ≡ power E (heading E (put t k m P) j)
  unfolding heading
  turned_power t k false P j = sym (turns.power_plus E L k j)
  turned_power t k true P j = sym (turns.power_minus E L k j)

  cond_mul : (m : Bool) (x y : E.Elem) → cond m (E.conj (E.mul x y)) (E.mul x y) ≡ E.mul (cond m (E.conj x) x) (cond m (E.conj y) y)
  cond_mul false x y = refl
  cond_mul true x y = L.conj_mul x y

  -- what a placement brings u ζ^j z to, from an image
  pub image_turned : (t k : ℕ) (m : Bool) (P q : E.Elem) (j : ℕ) (z : E.Elem) →
      image E (put t k m P) (E.add q (E.mul (power E j) z)) ≡ E.add (image E (put t k m P) q) (E.mul (power E (heading E (put t k m P) j)) (cond m (E.conj z) z))
  image_turned t k m P q j z = image_sum t k m P q (E.mul (power E j) z)
      ∙ ap (E.add _) (ap (E.mul (power E k)) (cond_mul m (power E j) z) ∙ sym (L.ring.mul_assoc _ _ _) ∙ ap₂ E.mul (turned_power t k m P j) refl)

  pub real : (m : Bool) (z : E.Elem) → E.conj z ≡ z → cond m (E.conj z) z ≡ z
  real false z h = refl
  real true z h = h

module _ (E : Cyclotomic) (L : CyclotomicLaws E) (B : Book E) where
  -- a stretched placement turns and mirrors as before
  pub heading_stretched : (p : Placement E) (j : ℕ) → heading E (stretched E B p) j ≡ heading E p j
  unfolding heading stretched
  heading_stretched p j = refl

  pub sign_of_stretched : (p : Placement E) (c : ℤ) → signed E (stretched E B p) c ≡ signed E p c
  unfolding signed stretched
  sign_of_stretched p c = refl

  -- placed as a child, then as its parent
  pub heading_child : (t k : ℕ) (m : Bool) (P : E.Elem) (t' k' : ℕ) (m' : Bool) (v : E.Elem) (j : ℕ) → heading E (child_of E B (put t k m P) (put t' k' m' v)) j ≡ heading E (put t k m P) (heading E (put t' k' m' v) j)
  unfolding heading child_of
  heading_child t k false P t' k' false v j = sym (turns.plus_plus E L k k' j)
  heading_child t k false P t' k' true v j = sym (turns.plus_minus E L k k' j)
  heading_child t k true P t' k' false v j = sym (turns.minus_plus E L k k' j)
  heading_child t k true P t' k' true v j = sym (turns.minus_minus E L k k' j)

  pub sign_child : (t k : ℕ) (m : Bool) (P : E.Elem) (t' k' : ℕ) (m' : Bool) (v : E.Elem) (c : ℤ) → signed E (child_of E B (put t k m P) (put t' k' m' v)) c ≡ signed E (put t k m P) (signed E (put t' k' m' v) c)
  unfolding signed child_of
  sign_child t k false P t' k' m' v c = refl
  sign_child t k true P t' k' false v c = refl
  sign_child t k true P t' k' true v c = sym (neg_ℤ-neg_ℤ c)

  mirror_twice : (m m' : Bool) (z : E.Elem) → cond m (E.conj (cond m' (E.conj z) z)) (cond m' (E.conj z) z) ≡ cond (cond m (not m') m') (E.conj z) z
  mirror_twice false m' z = refl
  mirror_twice true false z = refl
  mirror_twice true true z = L.conj_conj z

  image_of : (p : Placement E) (z : E.Elem) → image E p z ≡ E.add p.place (E.mul (power E p.turn) (cond p.mirrored (E.conj z) z))
  unfolding image
  image_of p z = refl

  pub image_child : (p c : Placement E) (z : E.Elem) → image E (child_of E B p c) z ≡ image E (stretched E B p) (image E c z)
  unfolding child_of stretched
  image_child p c z = image_of (child_of E B p c) z
      ∙ sym (ap (image E (stretched E B p)) (image_of c z)
      ∙ image_turned E L p.tile p.turn p.mirrored (E.mul B.factor p.place) c.place c.turn (cond c.mirrored (E.conj z) z)
      ∙ ap₂ (λ j w. E.add (image E (stretched E B p) c.place) (E.mul (power E j) w)) (heading_stretched p c.turn) (mirror_twice p.mirrored c.mirrored z))

  pub entry_child : (p c : Placement E) (x : Counted (Edge E)) → placed_entry E (child_of E B p c) x ≡ placed_entry E (stretched E B p) (placed_entry E c x)
  unfolding placed_entry placed_edge
  entry_child p c x = counted_path
      (edge_path refl (heading_child p.tile p.turn p.mirrored p.place c.tile c.turn c.mirrored c.place x.what.direction ∙ sym (heading_stretched p _)) (image_child p c x.what.start))
      (sign_child p.tile p.turn p.mirrored p.place c.tile c.turn c.mirrored c.place x.count ∙ sym (sign_of_stretched p _))

  pub placed_child : (p c : Placement E) (xs : Chain E) → placed E (child_of E B p c) xs ≡ placed E (stretched E B p) (placed E c xs)
  unfolding placed
  placed_child p c [] = refl
  placed_child p c (x ∷ xs) = ap₂ ◌∷◌ (entry_child p c x) (placed_child p c xs)

  -- a child's placement is the composition of its own with its parent's
  pub children_compose : (p c : Placement E) →
      ((z : E.Elem) → image E (child_of E B p c) z ≡ image E (stretched E B p) (image E c z))
      × ((j : ℕ) → heading E (child_of E B p c) j ≡ heading E p (heading E c j))
      × ((xs : Chain E) → placed E (child_of E B p c) xs ≡ placed E (stretched E B p) (placed E c xs))
  children_compose p c = (
    image_child p c,
    heading_child p.tile p.turn p.mirrored p.place c.tile c.turn c.mirrored c.place,
    placed_child p c,
  )
