-- Whole numbers modulo 2^64, read as signed, and rows of them.
use Rattle.std.specs.Prelude.{◌≡◌, ℕ, ℤ, pos, ◌+ℤ◌, neg_ℤ}
use Rattle.std.specs.Int.{int_wrap, w64}
use Rattle.std.proofs.lemmas.Int.{int_wrap_fits, SFits-int_wrap}
use Rattle.exact.specs.Groups.{AbelianGroup}

-- a number from -2^63 to 2^63 - 1, which stands for all that differ from it by a multiple of 2^64
pub record Residue : Type 0 where
  pub at : ℤ
  pub kept : int_wrap w64 at ≡ at

pub wrapped_twice : (z : ℤ) → int_wrap w64 (int_wrap w64 z) ≡ int_wrap w64 z
wrapped_twice z = int_wrap_fits w64 (int_wrap w64 z) (SFits-int_wrap w64 z)

abbrev pub residue : ℤ → Residue
residue z = record { at = int_wrap w64 z; kept = wrapped_twice z }

-- A total: coefficient k is its value at k. Coefficients add each by itself.
abbrev pub Total : Type 0
Total = ℕ → Residue

abbrev pub totals : AbelianGroup
totals = record {
  Val = Total;
  zero = λ k. residue (pos 0);
  sum = λ s t k. residue ((s k).at +ℤ (t k).at);
  opposite = λ s k. residue (neg_ℤ (s k).at);
}
