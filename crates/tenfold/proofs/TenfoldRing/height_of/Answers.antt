use Rattle.std.proofs.Common.{sym, ◌∙◌, subst, w8}
use Rattle.std.proofs.lemmas.Int.{to_z-of_z}
use Rattle.exact.specs.Sizes.{Within}
use Rattle.exact.proofs.TenfoldLaws.{tenfold_laws}
use Rattle.rings.specs.Plane.{height_bound}
use Rattle.tenfold.proofs.TenfoldRing.height_of.Goals as goal

pub returns-then-is_within : goal.returns-then-is_within
returns-then-is_within c =
    let row = c.args.plain in
    record {
      is = (
        to_z-of_z w8 _ (record { sfits = c.golden.type_inv }) ∙ c.golden.ensures,
        subst (Within height_bound) (sym (tenfold_laws.list_of row.at row.full)) (c.if-is_within.ensures.yes tt),
      );
    }
