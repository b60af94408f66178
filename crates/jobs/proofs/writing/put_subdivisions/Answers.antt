use Rattle.std.proofs.Common.{arith}
use Rattle.std.proofs.lemmas.List.{length-append}
use Rattle.std.proofs.lemmas.List.Folds.{length-flat_map-take}
use Rattle.jobs.specs.RowTexts.{subdivision_line_text}
use Rattle.jobs.proofs.writing.put_subdivisions.Goals as goal

pub returns-in_err-put_line : goal.returns-in_err-put_line
returns-in_err-put_line c =
    let fits = length-flat_map-take subdivision_line_text c.args.labels.now c.loop-label.label-index c.label-item.result c.loop-label-test.true in
    grind (arith, length-append)
