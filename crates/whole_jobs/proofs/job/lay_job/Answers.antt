use Rattle.std.proofs.Common.{length, inr, Ok, Err, sym, subst}
use Rattle.calls.specs.Limits.{usable}
use Rattle.calls.specs.Sheets.{Sheet, AtNode}
use Rattle.calls.specs.Views.{cursor_at, sheet_of}
use Rattle.whole_jobs.specs.Whole.{Grown, LaysOn, LedOn}
use Rattle.whole_jobs.specs.Job.{LaysWhole, LaysUpTo}
use Rattle.whole_jobs.proofs.Wholes.{lays_whole, lays_up_to}
use Rattle.whole_jobs.proofs.job.lay_job.Goals as goal

pub returns-in-Err-clause-lays : goal.returns-in-Err-clause-lays
returns-in-Err-clause-lays g c sound =
    let E = g.P.R.Ring.exact in let f = g.P.R.Ring.listed in let N = g.P.Placer.plan c.args.placer in
    let o = c.in_ok-sheet.sheet in let n = c.lay_all.new.sheet in let xs = c.args.list.now in let ys = c.lay_all.new.list in
    let begun = c.in_ok-sheet.ensures.starts in
    let t : Sheet E = sheet_of E f n.cursor n.count ys in
    let lays = subst (λ q. g.P.Placer.sound q → AtNode (g.P.Placer.plan q) (cursor_at o.cursor) → LaysOn E (g.P.Placer.plan q) (usable (length xs)) (Err c.in-Err.fault) (sheet_of E f o.cursor o.count xs) t) begun.1 c.in-Err.ensures.lays in
    let laid = subst (λ k. LaysOn E N (usable (length xs)) (Err c.in-Err.fault) (sheet_of E f o.cursor k xs) t) begun.2 (lays sound c.in_ok-sheet.ensures.node) in
    let led = subst (λ q. g.P.Placer.sound q → LedOn E (g.P.Placer.plan q) (usable (length xs)) (sheet_of E f o.cursor o.count xs) t) begun.1 c.in-Err.ensures.led in
    let led_on = subst (λ k. LedOn E N (usable (length xs)) (sheet_of E f o.cursor k xs) t) begun.2 (led sound) in
    let grown = subst (λ k. Grown k n.count xs ys) begun.2 c.in-Err.ensures.listed in
    inr (subst (λ e. LaysUpTo E N f e xs ys) (sym c.with.ensures.1)
    (lays_up_to E g.met.P.R.Ring.lawful N (g.met.P.Placer.branching c.args.placer) begun.0 f o.cursor n.cursor n.count xs ys grown begun.3 led_on c.in-Err.fault laid.0 laid.1))

pub returns-clause-lays : goal.returns-clause-lays
returns-clause-lays g c sound =
    let E = g.P.R.Ring.exact in let f = g.P.R.Ring.listed in let N = g.P.Placer.plan c.args.placer in
    let o = c.in_ok-sheet.sheet in let n = c.lay_all.new.sheet in let xs = c.args.list.now in let ys = c.lay_all.new.list in
    let begun = c.in_ok-sheet.ensures.starts in
    let t : Sheet E = sheet_of E f n.cursor n.count ys in
    let lays = subst (λ q. g.P.Placer.sound q → AtNode (g.P.Placer.plan q) (cursor_at o.cursor) → LaysOn E (g.P.Placer.plan q) {S = g.row.P-R.Denot} (usable (length xs)) (Ok c.in_default.field-0) (sheet_of E f o.cursor o.count xs) t) begun.1 c.in_default.ensures.lays in
    let laid = subst (λ k. LaysOn E N {S = g.row.P-R.Denot} (usable (length xs)) (Ok c.in_default.field-0) (sheet_of E f o.cursor k xs) t) begun.2 (lays sound c.in_ok-sheet.ensures.node) in
    let led = subst (λ q. g.P.Placer.sound q → LedOn E (g.P.Placer.plan q) (usable (length xs)) (sheet_of E f o.cursor o.count xs) t) begun.1 c.in_default.ensures.led in
    let led_on = subst (λ k. LedOn E N (usable (length xs)) (sheet_of E f o.cursor k xs) t) begun.2 (led sound) in
    let grown = subst (λ k. Grown k n.count xs ys) begun.2 c.in_default.ensures.listed in
    subst (λ k. LaysWhole E N f k xs ys) (sym c.in_ok-finish.ensures.2)
    (lays_whole E g.met.P.R.Ring.lawful N (g.met.P.Placer.branching c.args.placer) begun.0 f o.cursor n.cursor n.count xs ys grown begun.3 led_on laid.0 laid.1)
