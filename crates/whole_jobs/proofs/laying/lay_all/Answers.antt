use Rattle.std.proofs.Common.{◌≡◌, length, None, sym, ap, ◌∙◌, subst}
use Rattle.calls.specs.Limits.{usable}
use Rattle.calls.specs.Sheets.{Sheet}
use Rattle.calls.specs.Views.{cursor_at, sheet_of}
use Rattle.whole_jobs.specs.Whole.{LedOn}
use Rattle.whole_jobs.proofs.Leading.{led_joined}
use Rattle.whole_jobs.proofs.Listing.{more_written}
use Rattle.whole_jobs.proofs.Joining.{all_laid}
use Rattle.whole_jobs.proofs.Going.{at_first, further, ends}
use Rattle.whole_jobs.proofs.laying.lay_all.Goals as goal

pub loop-cursor-init : goal.loop-cursor-init
loop-cursor-init g c =
    let E = g.P.R.Ring.exact in let o = c.args.sheet.now in let list = c.args.list.now in
    at_first E (g.P.Placer.plan o.placer) (g.P.Placer.sound o.placer) o.count list (sheet_of E g.P.R.Ring.listed o.cursor o.count list)

pub loop-cursor-preserved : goal.loop-cursor-preserved
loop-cursor-preserved g c =
    let E = g.P.R.Ring.exact in let f = g.P.R.Ring.listed in
    let o = c.args.sheet.now in let m = c.loop-cursor.sheet in let n = c.step_on.new.sheet in
    let xs = c.args.list.now in let ys = c.loop-cursor.list in let zs = c.step_on.new.list in
    let e = c.in_ok-step_on.ensures in
    further E (g.P.Placer.plan o.placer) (g.P.Placer.plan m.placer) (g.P.Placer.plan n.placer) (g.P.Placer.sound o.placer) (g.P.Placer.sound m.placer) (g.P.Placer.sound n.placer) o.count m.count n.count xs ys zs
    (sheet_of E f o.cursor o.count xs) (sheet_of E f m.cursor m.count ys) (sheet_of E f n.cursor n.count zs)
    c.loop-cursor.invariant (record { kept = e.kept; sound = e.sound; node = e.node; listed = e.listed; lays = e.lays; led = e.led })

pub returns-in_err-step_on-clause-lays : goal.returns-in_err-step_on-clause-lays
returns-in_err-step_on-clause-lays g c =
    let E = g.P.R.Ring.exact in let f = g.P.R.Ring.listed in
    let o = c.args.sheet.now in let m = c.loop-cursor.sheet in let n = c.step_on.new.sheet in
    let xs = c.args.list.now in let ys = c.loop-cursor.list in
    ends E (g.P.Placer.plan o.placer) (g.P.Placer.plan m.placer) (g.P.Placer.sound o.placer) (g.P.Placer.sound m.placer) o.count m.count xs ys
    (sheet_of E f o.cursor o.count xs) (sheet_of E f m.cursor m.count ys) (sheet_of E f n.cursor n.count c.step_on.new.list)
    c.from_residual.result c.in_err-step_on.field-0.0 c.from_residual.ensures.1 c.loop-cursor.invariant c.in_err-step_on.ensures.lays

pub returns-in_err-step_on-clause-led : goal.returns-in_err-step_on-clause-led
returns-in_err-step_on-clause-led g c sound =
    let E = g.P.R.Ring.exact in let f = g.P.R.Ring.listed in
    let o = c.args.sheet.now in let m = c.loop-cursor.sheet in let n = c.step_on.new.sheet in
    let xs = c.args.list.now in let ys = c.loop-cursor.list in let zs = c.step_on.new.list in
    let so_far = c.loop-cursor.invariant in let N = g.P.Placer.plan o.placer in
    let s : Sheet E = sheet_of E f o.cursor o.count xs in let t : Sheet E = sheet_of E f m.cursor m.count ys in let u : Sheet E = sheet_of E f n.cursor n.count zs in
    led_joined E N (usable (length xs)) s t u (so_far.led sound) (subst (λ M. LedOn E M (usable (length xs)) t u) so_far.kept
    (subst (λ k. LedOn E (g.P.Placer.plan m.placer) (usable k) t u) so_far.listed.as_long (c.in_err-step_on.ensures.led (so_far.sound sound))))

pub returns-in_err-step_on-clause-listed : goal.returns-in_err-step_on-clause-listed
returns-in_err-step_on-clause-listed g c =
    more_written c.args.sheet.now.count c.loop-cursor.sheet.count c.step_on.new.sheet.count c.args.list.now c.loop-cursor.list c.step_on.new.list c.loop-cursor.invariant.listed c.in_err-step_on.ensures.listed

pub returns-clause-lays : goal.returns-clause-lays
returns-clause-lays g c sound node =
    let E = g.P.R.Ring.exact in let f = g.P.R.Ring.listed in
    let o = c.args.sheet.now in let n = c.loop-cursor.sheet in
    let s : Sheet E = sheet_of E f o.cursor o.count c.args.list.now in
    let t : Sheet E = sheet_of E f n.cursor n.count c.loop-cursor.list in
    let none : cursor_at n.cursor ≡ None = ap cursor_at (sym c.cursor.ensures ∙ c.in_default.is) in
    (none, all_laid E (g.P.Placer.plan o.placer) s t none (c.loop-cursor.invariant.lays sound node))

pub returns-clause-led : goal.returns-clause-led
returns-clause-led g c sound = c.loop-cursor.invariant.led sound
