-- What this crate proves, as statements that its functions' contracts name.
use Rattle.std.specs.Prelude.{ℤ, pos, ◌+ℤ◌, ◌*ℤ◌, neg_ℤ}
use Rattle.exact.specs.Cyclotomic.{CommutativeLaws}
use Rattle.exact.specs.Quads.{Quad, quad_add, quad_neg, quad_mul}

-- Whatever row ζ⁴ is reduced to, rows of four whole numbers form a commutative ring.
abbrev pub EveryQuarticReductionGivesARing : Type 0
EveryQuarticReductionGivesARing = (r : Quad ℤ) → CommutativeLaws {A = Quad ℤ}
    (record { c0 = pos 0; c1 = pos 0; c2 = pos 0; c3 = pos 0 }) (record { c0 = pos 1; c1 = pos 0; c2 = pos 0; c3 = pos 0 })
    (quad_add ◌+ℤ◌ ◌*ℤ◌ neg_ℤ) (quad_mul ◌+ℤ◌ ◌*ℤ◌ neg_ℤ r) (quad_neg ◌+ℤ◌ ◌*ℤ◌ neg_ℤ)
