use Rattle.std.proofs.Common.{map, ap, ◌∙◌, rules}
use Rattle.std.proofs.lemmas.Result.{IfOk-weaker}
use Rattle.std.proofs.lemmas.Iterator.{YieldsList-from_slice, YieldsList-from_map, items_from_collect}
use Rattle.job_rows.specs.Shapes.{step_of}
use Rattle.edges.proofs.Chained.{part_step, steps_of_parts}
use Rattle.edges.proofs.inflating.steps_in.Goals as goal

pub returns : goal.returns
returns c =
    IfOk-weaker c.collect.result _ _ (λ _ e. ap (map step_of) e ∙ steps_of_parts c.args.direction c.args.parts.now)
    (items_from_collect c.collect.result c.collect.ensures.ran (YieldsList-from_map _ (part_step c.args.direction) (YieldsList-from_slice c.args.parts.now cc) c.map.ensures.closure (λ x r q k. search rules)))
