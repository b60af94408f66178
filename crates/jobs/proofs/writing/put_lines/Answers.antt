use Rattle.std.proofs.Common.{arith}
use Rattle.std.proofs.lemmas.List.{length-append}
use Rattle.std.proofs.lemmas.List.Folds.{length-flat_map-take}
use Rattle.jobs.specs.RowTexts.{line_text}
use Rattle.jobs.proofs.writing.put_lines.Goals as goal

pub returns-in_err-put_line : goal.returns-in_err-put_line
returns-in_err-put_line g c =
    let fits = length-flat_map-take (λ row. line_text c.args.letter (g.T.Spelt.text row)) c.args.rows.now c.loop-row.row-index c.row-item.result c.loop-row-test.true in
    grind (arith, length-append)
