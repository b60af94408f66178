use Rattle.std.proofs.Common.{cond, sym, ap, ◌∙◌, w8, w64}
use Rattle.std.proofs.lemmas.Int.{to_z-of_z}
use Rattle.exact.specs.Signs.{sign}
use Rattle.rings.proofs.Bounds.{tested, between_back}
use Rattle.tenfold.proofs.surd.Goals as goal

pub returns-then-squared : goal.returns-then-squared
returns-then-squared c =
    let u = c.args.u in
    let b = c.args.b in
    let x = c.squared.ensures in
    let y = c.squared-2.ensures in
    let e = tested u b c.ranges.u c.ranges.b x.is y.is x.low (x.half (between_back c.ranges.b c.requires.1)) (record { sfits = c.squared-2.type_inv }) c.if-squared.true in
    to_z-of_z w8 _ (record { sfits = c.sign_of.type_inv }) ∙ c.sign_of.ensures ∙ ap sign (to_z-of_z w64 u c.ranges.u) ∙ sym (ap (λ t. cond t (sign u) (sign b)) e)

pub returns-else-squared : goal.returns-else-squared
returns-else-squared c =
    let u = c.args.u in
    let b = c.args.b in
    let x = c.squared.ensures in
    let y = c.squared-2.ensures in
    let e = tested u b c.ranges.u c.ranges.b x.is y.is x.low (x.half (between_back c.ranges.b c.requires.1)) (record { sfits = c.squared-2.type_inv }) c.if-squared.false in
    to_z-of_z w8 _ (record { sfits = c.sign_of-else-squared.type_inv }) ∙ c.sign_of-else-squared.ensures ∙ ap sign (to_z-of_z w64 b c.ranges.b) ∙ sym (ap (λ t. cond t (sign u) (sign b)) e)
