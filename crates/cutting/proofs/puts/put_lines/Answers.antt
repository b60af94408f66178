use Rattle.std.proofs.Common.{List, ℕ, Some, sym, subst}
use Rattle.std.specs.List.{flat_map}
use Rattle.std.proofs.lemmas.List.{take_all}
use Rattle.std.proofs.lemmas.List.Folds.{flat_map-map}
use Rattle.calls.specs.Records.{row_view}
use Rattle.cutting.specs.Lines.{line}
use Rattle.cutting.specs.Puts.{Puts}
use Rattle.cutting.proofs.Putting.{puts_next, puts_stop}
use Rattle.cutting.proofs.puts.put_lines.Goals as goal

pub returns-in_err-end : goal.returns-in_err-end
returns-in_err-end g c =
    let E = g.R.Ring.exact in
    let view = row_view E g.R.Ring.listed in
    let rows = c.args.rows.now in
    let row = c.row-item.result in
    let new = c.put_line.new.buffer in
    let r = c.from_residual.result in
    subst (λ text. Puts c.args.buffer.now 0 text new r) (sym (flat_map-map (line E) view rows))
    (puts_stop (λ row. line E (view row)) rows c.loop-row.row-index row row c.loop-row-test.true c.row-item.is c.args.buffer.now c.loop-row.buffer new 0 c.loop-row.end c.loop-row.invariant r c.from_residual.ensures c.in_err-end.ensures)

pub loop-row-preserved : goal.loop-row-preserved
loop-row-preserved g c =
    let E = g.R.Ring.exact in
    let view = row_view E g.R.Ring.listed in
    let row = c.row-item.result in
    puts_next (λ row. line E (view row)) c.args.rows.now c.loop-row.row-index row row c.loop-row-test.true c.row-item.is c.args.buffer.now c.loop-row.buffer c.put_line.new.buffer 0 c.loop-row.end c.loop-row.invariant c.in_ok-end.end c.in_ok-end.ensures

pub returns : goal.returns
returns g c =
    let E = g.R.Ring.exact in
    let view = row_view E g.R.Ring.listed in
    let rows = c.args.rows.now in
    let Done : List ℕ → Type 0 = λ text. Puts c.args.buffer.now 0 text c.loop-row.buffer (Some c.loop-row.end) in
    subst Done (sym (flat_map-map (line E) view rows))
    (subst (λ l. Done (flat_map (λ row. line E (view row)) l)) (take_all c.loop-row.row-index rows c.loop-row-test.false) c.loop-row.invariant)
