use Rattle.std.proofs.Common.{refl, ◌∙◌, w64, rules}
use Rattle.std.proofs.lemmas.Int.{to_z-of_z}
use Rattle.rings.proofs.rows.fn.RowCoefficients.read.from_fn+FnOnce.call_once.Goals as goal

pub returns : goal.returns
returns c = (c.args.arg1, (refl, to_z-of_z w64 _ (search rules) ∙ c.from_fn.ensures))
