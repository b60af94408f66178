-- Multiples in a commutative group.
use Rattle.std.proofs.Common.{◌≡◌, ℕ, zero, suc, ℤ, pos, negsuc, ◌+ℤ◌, ◌*ℤ◌, neg_ℤ, sym, refl, ap, ◌∙◌, ap₂}
use lib.IntN.{suc_ℤ, pred_ℤ, +ℤ-suc_ℤ, +ℤ-pred_ℤ, +ℤ_idr, +ℤ_comm, +ℤ_assoc, +ℤ_invr, suc_ℤ-*ℤ, pred_ℤ-*ℤ, zero-*ℤ, *ℤ_comm}
use Rattle.exact.specs.Groups.{AbelianGroup, AbelianLaws, repeated, times}

module _ (G : AbelianGroup) (L : AbelianLaws G) where
  pub left_comm : (x y z : G.Val) → G.sum x (G.sum y z) ≡ G.sum y (G.sum x z)
  left_comm x y z = sym (L.sum_assoc x y z) ∙ ap (λ w. G.sum w z) (L.sum_comm x y) ∙ L.sum_assoc y x z

  pub zero_sum : (x : G.Val) → G.sum G.zero x ≡ x
  zero_sum x = L.sum_comm _ _ ∙ L.sum_zero x

  pub four : (a b c d : G.Val) → G.sum (G.sum a b) (G.sum c d) ≡ G.sum (G.sum a c) (G.sum b d)
  four a b c d = simp (L.sum_assoc, left_comm)

  -- an opposite is the only one
  pub opposite_is : (x y : G.Val) → G.sum x y ≡ G.zero → y ≡ G.opposite x
  opposite_is x y e =
      sym (zero_sum y)
      ∙ ap (λ w. G.sum w y) (sym (L.sum_opposite x) ∙ L.sum_comm _ _)
      ∙ L.sum_assoc _ _ _
      ∙ ap (G.sum (G.opposite x)) e
      ∙ L.sum_zero _

  pub opposite_zero : G.opposite G.zero ≡ G.zero
  opposite_zero = sym (opposite_is _ _ (L.sum_zero _))

  pub opposite_opposite : (x : G.Val) → G.opposite (G.opposite x) ≡ x
  opposite_opposite x = sym (opposite_is _ _ (L.sum_comm _ _ ∙ L.sum_opposite x))

  pub opposite_sum : (x y : G.Val) → G.opposite (G.sum x y) ≡ G.sum (G.opposite x) (G.opposite y)
  opposite_sum x y = sym (opposite_is _ _ (four x y (G.opposite x) (G.opposite y) ∙ ap (λ w. G.sum w (G.sum y (G.opposite y))) (L.sum_opposite x) ∙ zero_sum _ ∙ L.sum_opposite y))

  pub undo : (x y : G.Val) → G.sum (G.opposite x) (G.sum x y) ≡ y
  undo x y = sym (L.sum_assoc _ _ _) ∙ ap (λ w. G.sum w y) (L.sum_comm _ _ ∙ L.sum_opposite x) ∙ zero_sum y

  pub redo : (x y : G.Val) → G.sum x (G.sum (G.opposite x) y) ≡ y
  redo x y = sym (L.sum_assoc _ _ _) ∙ ap (λ w. G.sum w y) (L.sum_opposite x) ∙ zero_sum y

  pub times_suc : (k : ℤ) (v : G.Val) → times G (suc_ℤ k) v ≡ G.sum v (times G k v)
  unfolding times repeated
  times_suc (pos k) v = refl
  times_suc (negsuc zero) v = sym (L.sum_opposite v) ∙ ap (λ w. G.sum v (G.opposite w)) (sym (L.sum_zero v))
  times_suc (negsuc (suc k)) v = sym (ap (G.sum v) (opposite_sum v _) ∙ redo v _)

  pub times_pred : (k : ℤ) (v : G.Val) → times G (pred_ℤ k) v ≡ G.sum (G.opposite v) (times G k v)
  unfolding times repeated
  times_pred (pos zero) v = ap G.opposite (L.sum_zero v) ∙ sym (L.sum_zero _)
  times_pred (pos (suc k)) v = sym (undo v _)
  times_pred (negsuc k) v = opposite_sum v _

  pub times_zero : (v : G.Val) → times G (pos 0) v ≡ G.zero
  unfolding times repeated
  times_zero v = refl

  pub times_add : (a b : ℤ) (v : G.Val) → times G (a +ℤ b) v ≡ G.sum (times G a v) (times G b v)
  times_add a (pos zero) v = ap (λ z. times G z v) (+ℤ_idr a) ∙ sym (L.sum_zero _) ∙ ap (G.sum _) (sym (times_zero v))
  times_add a (pos (suc k)) v = up a (pos k) v (times_add a (pos k) v)
    where
      up : (a b : ℤ) (v : G.Val) → times G (a +ℤ b) v ≡ G.sum (times G a v) (times G b v) → times G (a +ℤ suc_ℤ b) v ≡ G.sum (times G a v) (times G (suc_ℤ b) v)
      up a b v h = ap (λ z. times G z v) (+ℤ-suc_ℤ a b) ∙ times_suc _ v ∙ ap (G.sum v) h ∙ left_comm _ _ _ ∙ ap (G.sum _) (sym (times_suc b v))
  times_add a (negsuc zero) v = ap (λ z. times G z v) (+ℤ-pred_ℤ a (pos 0) ∙ ap pred_ℤ (+ℤ_idr a)) ∙ times_pred a v ∙ L.sum_comm _ _ ∙ ap (G.sum _) (sym (times_pred (pos 0) v ∙ ap (G.sum _) (times_zero v) ∙ L.sum_zero _))
  times_add a (negsuc (suc k)) v = down a (negsuc k) v (times_add a (negsuc k) v)
    where
      down : (a b : ℤ) (v : G.Val) → times G (a +ℤ b) v ≡ G.sum (times G a v) (times G b v) → times G (a +ℤ pred_ℤ b) v ≡ G.sum (times G a v) (times G (pred_ℤ b) v)
      down a b v h = ap (λ z. times G z v) (+ℤ-pred_ℤ a b) ∙ times_pred _ v ∙ ap (G.sum _) h ∙ left_comm _ _ _ ∙ ap (G.sum _) (sym (times_pred b v))

  pub times_neg : (a : ℤ) (v : G.Val) → times G (neg_ℤ a) v ≡ G.opposite (times G a v)
  times_neg a v = opposite_is _ _ (sym (times_add a (neg_ℤ a) v) ∙ ap (λ z. times G z v) (+ℤ_invr a) ∙ times_zero v)

  repeated_opposite : (k : ℕ) (v : G.Val) → repeated G k (G.opposite v) ≡ G.opposite (repeated G k v)
  unfolding repeated
  repeated_opposite zero v = sym opposite_zero
  repeated_opposite (suc k) v = ap (G.sum _) (repeated_opposite k v) ∙ sym (opposite_sum _ _)

  pub times_opposite : (a : ℤ) (v : G.Val) → times G a (G.opposite v) ≡ G.opposite (times G a v)
  unfolding times
  times_opposite (pos k) v = repeated_opposite k v
  times_opposite (negsuc k) v = ap G.opposite (repeated_opposite (suc k) v)

-- the whole numbers
abbrev pub whole : AbelianGroup
whole = record { Val = ℤ; zero = pos 0; sum = ◌+ℤ◌; opposite = neg_ℤ }

pub whole_laws : AbelianLaws whole
whole_laws = record { sum_comm = +ℤ_comm; sum_assoc = +ℤ_assoc; sum_zero = +ℤ_idr; sum_opposite = +ℤ_invr }

-- there a multiple is a product
pub times_mul : (a b : ℤ) → times whole a b ≡ a *ℤ b
unfolding times repeated
times_mul (pos zero) b = sym (zero-*ℤ b)
times_mul (pos (suc k)) b = times_suc whole whole_laws (pos k) b ∙ ap (◌+ℤ◌ b) (times_mul (pos k) b) ∙ +ℤ_comm b (pos k *ℤ b) ∙ sym (suc_ℤ-*ℤ (pos k) b)
times_mul (negsuc zero) b = times_pred whole whole_laws (pos 0) b ∙ +ℤ_comm (neg_ℤ b) (pos 0) ∙ ap (λ z. z +ℤ neg_ℤ b) (sym (zero-*ℤ b)) ∙ sym (pred_ℤ-*ℤ (pos 0) b)
times_mul (negsuc (suc k)) b = times_pred whole whole_laws (negsuc k) b ∙ ap (◌+ℤ◌ (neg_ℤ b)) (times_mul (negsuc k) b) ∙ +ℤ_comm (neg_ℤ b) (negsuc k *ℤ b) ∙ sym (pred_ℤ-*ℤ (negsuc k) b)

pub mul_sum : (c a b : ℤ) → c *ℤ (a +ℤ b) ≡ (c *ℤ a) +ℤ (c *ℤ b)
mul_sum c a b = *ℤ_comm c (a +ℤ b) ∙ sym (times_mul (a +ℤ b) c) ∙ times_add whole whole_laws a b c
    ∙ ap₂ ◌+ℤ◌ (times_mul a c ∙ *ℤ_comm a c) (times_mul b c ∙ *ℤ_comm b c)

pub mul_negated : (c a : ℤ) → c *ℤ neg_ℤ a ≡ neg_ℤ (c *ℤ a)
mul_negated c a = sym (times_mul c (neg_ℤ a)) ∙ times_opposite whole whole_laws c a ∙ ap neg_ℤ (times_mul c a)

pub negated_mul : (c a : ℤ) → neg_ℤ c *ℤ a ≡ neg_ℤ (c *ℤ a)
negated_mul c a = *ℤ_comm (neg_ℤ c) a ∙ mul_negated a c ∙ ap neg_ℤ (*ℤ_comm a c)
