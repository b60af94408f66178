-- Signs of whole numbers and of numbers u + b√k.
use Rattle.std.specs.Prelude.{ℕ, cond, ℤ, pos, negsuc, ◌+ℤ◌, ◌*ℤ◌, int_lt}

-- 1, 0 or -1
abbrev pub sign : ℤ → ℤ
sign (pos ℕ.zero) = pos 0
sign (pos (ℕ.suc k)) = pos 1
sign (negsuc k) = negsuc 0

-- The sign of u + b√k, where k is no square: that of u where u² > k·b², else that of b.
abbrev pub surd_sign : ℕ → ℤ → ℤ → ℤ
surd_sign k u b = cond (int_lt (pos k *ℤ (b *ℤ b)) (u *ℤ u)) (sign u) (sign b)

-- The sign of a + bφ, φ = (1 + √5)/2: twice a + bφ is u + b√5 with u = 2a + b.
abbrev pub golden_sign : ℤ → ℤ → ℤ
golden_sign a b = surd_sign 5 (a +ℤ a +ℤ b) b
