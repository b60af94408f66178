-- The whole numbers are a commutative ring, so the solver serves them.
use Rattle.std.proofs.Common.{◌≡◌, ◌*◌, ℤ, pos, ◌+ℤ◌, ◌*ℤ◌, neg_ℤ, ap, arith}
use lib.IntN.{+ℤ_assoc, +ℤ_comm, +ℤ_idr, +ℤ_invr, *ℤ_comm}
use borrow.Author.Differences.{up, down, same_in, sum_is_lem, product_is}
use Rattle.exact.proofs.Solver.{Commutative}

pub *ℤ_assoc : (a b c : ℤ) → (a *ℤ b) *ℤ c ≡ a *ℤ (b *ℤ c)
*ℤ_assoc a b c =
    same_in _ _ (omega (
      arith,
      product_is (a *ℤ b) c,
      product_is a (b *ℤ c),
      ap (λ x. x * up c) (product_is a b).0,
      ap (λ x. x * down c) (product_is a b).0,
      ap (λ x. x * up c) (product_is a b).1,
      ap (λ x. x * down c) (product_is a b).1,
      ap (λ x. up a * x) (product_is b c).0,
      ap (λ x. down a * x) (product_is b c).0,
      ap (λ x. up a * x) (product_is b c).1,
      ap (λ x. down a * x) (product_is b c).1,
    ))

pub *ℤ_add : (a b c : ℤ) → a *ℤ (b +ℤ c) ≡ a *ℤ b +ℤ a *ℤ c
*ℤ_add a b c =
    same_in _ _ (omega (arith, product_is a (b +ℤ c), product_is a b, product_is a c, sum_is_lem (a *ℤ b) (a *ℤ c), ap (λ x. up a * x) (sum_is_lem b c), ap (λ x. down a * x) (sum_is_lem b c)))

pub *ℤ_idr : (a : ℤ) → a *ℤ pos 1 ≡ a
*ℤ_idr a = omega (arith, same_in, product_is)

abbrev pub integers : Commutative
integers = record {
  R = ℤ;
  zero = pos 0;
  one = pos 1;
  add = ◌+ℤ◌;
  mul = ◌*ℤ◌;
  neg = neg_ℤ;
  laws = record {
    add_assoc = +ℤ_assoc;
    add_comm = +ℤ_comm;
    add-zero = +ℤ_idr;
    add_neg = +ℤ_invr;
    mul_assoc = *ℤ_assoc;
    mul_comm = *ℤ_comm;
    mul_one = *ℤ_idr;
    mul_add = *ℤ_add;
  };
}
