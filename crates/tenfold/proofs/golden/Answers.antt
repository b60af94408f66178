use Rattle.std.proofs.Common.{◌≡◌, pos, get_or, ◌+ℤ◌, ◌∙◌, ap₂, arith, w8}
use Rattle.std.proofs.lemmas.Int.{to_z-of_z, ints}
use Rattle.exact.specs.Signs.{surd_sign}
use Rattle.rings.specs.Plane.{height_bound}
use Rattle.rings.proofs.Bounds.{back}
use Rattle.rings.proofs.Lists.{within_at}
use Rattle.tenfold.proofs.golden.Goals as goal

pub overflow_add-a-2 : goal.overflow_add-a-2
overflow_add-a-2 c =
    let near = within_at height_bound c.args.row.at c.requires in
    let n1 = near 1 in
    let n2 = near 2 in
    let n3 = near 3 in
    omega (arith, ints)

pub surd-requires : goal.surd-requires
surd-requires c =
    let near = within_at height_bound c.args.row.at c.requires in
    let n1 = near 1 in
    let n2 = near 2 in
    let n3 = near 3 in
    ((omega (arith, ints), omega (arith, ints)), (omega (arith, ints), omega (arith, ints)))

pub returns : goal.returns
returns c =
    let a = get_or c.args.row.at 1 (pos 0) in
    let d = get_or c.args.row.at 2 (pos 0) in
    let e = get_or c.args.row.at 3 (pos 0) in
    let near = within_at height_bound c.args.row.at c.requires in
    let n1 = near 1 in
    let n2 = near 2 in
    let n3 = near 3 in
    let b : back (back d +ℤ back e) ≡ d +ℤ e = omega (arith, ints) in
    let u : back (back (back a +ℤ back a) +ℤ back (back d +ℤ back e)) ≡ a +ℤ a +ℤ (d +ℤ e) = omega (arith, ints) in
    to_z-of_z w8 _ (record { sfits = c.surd.type_inv }) ∙ c.surd.ensures ∙ ap₂ (surd_sign 5) u b
