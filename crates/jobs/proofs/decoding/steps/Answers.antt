use Rattle.std.proofs.Common.{map, length, ap, ◌∙◌, rules, arith}
use Rattle.jobs.specs.declared.draft.Head.{Head as HeadRow}
use Rattle.jobs.specs.Ranges.{StepFits}
use Rattle.job_rows.specs.Shapes.{step_of}
use Rattle.jobs.specs.Spelled.{step_numbers}
use Rattle.jobs.proofs.Rowed.{line_read}
use Rattle.jobs.proofs.Series.{length_steps}
use Rattle.jobs.proofs.decoding.steps.Goals as goal
use Rattle.jobs.proofs.decoding.steps.Goals.{then-ns-via-then-ns, then-ns-via-else-ns+then-ns-2}

pub returns-then-ns : goal.returns-then-ns
returns-then-ns c ss h e =
    let n = ap length e ∙ length_steps ss in
    let some = h.0 in
    let few = h.1 in
    elim c.then-ns.branch [ then-ns-via-then-ns w ↦ omega arith | then-ns-via-else-ns+then-ns-2 w ↦ omega arith ]

pub returns : goal.returns
returns c =
    let fits = StepFits (map (λ (l : HeadRow). l.arrowed) c.args.labels.now) c.args.order in
    line_read 3 step_numbers (λ s. omega arith) step_of fits 3 12 _ c.args.ns.now c.rows.result c.rows.ensures (λ row r s. search rules) (omega arith) (λ m l. (omega arith, omega arith))
