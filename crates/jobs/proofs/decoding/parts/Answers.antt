use Rattle.std.proofs.Common.{map, length, ap, ◌∙◌, rules, arith}
use Rattle.std.proofs.lemmas.Bool.Decides.{nat_tests}
use Rattle.jobs.specs.declared.draft.Head.{Head as HeadRow}
use Rattle.jobs.specs.Ranges.{PartFits}
use Rattle.job_rows.specs.Shapes.{part_of}
use Rattle.jobs.specs.Spelled.{part_numbers}
use Rattle.jobs.proofs.Rowed.{line_read}
use Rattle.jobs.proofs.Series.{length_parts}
use Rattle.jobs.proofs.decoding.parts.Goals as goal
use Rattle.jobs.proofs.decoding.parts.Goals.{then-is_empty-via-then-is_empty, then-is_empty-via-else-is_empty+then-ns}

pub returns-then-is_empty : goal.returns-then-is_empty
returns-then-is_empty c ps h e =
    let n = ap length e ∙ length_parts ps in
    let some = h.0 in
    let few = h.1 in
    elim c.then-is_empty.branch [ then-is_empty-via-then-is_empty w ↦ let z = w.if-is_empty.ensures in grind (arith, nat_tests) | then-is_empty-via-else-is_empty+then-ns w ↦ omega arith ]

pub returns : goal.returns
returns c =
    let fits = PartFits (map (λ (l : HeadRow). l.arrowed) c.args.labels.now) in
    line_read 2 part_numbers (λ p. omega arith) part_of fits 1 8 _ c.args.ns.now c.rows.result c.rows.ensures (λ row r s. search rules) (omega arith) (λ m l. let z = c.if-is_empty.ensures in (grind (arith, nat_tests), omega arith))
