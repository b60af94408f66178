use Rattle.std.proofs.Common.{◌≡◌, ◌<◌, ◌≤◌, [], length, Some, Ok, Err, IfOk, sym, ap, subst, arith}
use Rattle.calls.specs.Limits.{usable}
use Rattle.calls.specs.Records.{records}
use Rattle.calls.specs.Sheets.{Sheet, AtNode, descend, lay_by}
use Rattle.calls.specs.Views.{sheet_of, cursor_at, cursor_view}
use Rattle.sheet.specs.Answers.{Does, Answers, entry_at}
use Rattle.whole_jobs.specs.Whole.{steps_left}
use Rattle.whole_jobs.proofs.Listing.{one_written, has_room}
use Rattle.whole_jobs.proofs.Steps.{refused_same, steps_down, down_nearer, laid_there, laid_one, is_stuck, stops}
use Rattle.whole_jobs.proofs.Leading.{led_down, led_by_laying}
use Rattle.whole_jobs.proofs.Levels.{no_deeper, above, at_depth, has_children}
use Rattle.whole_jobs.proofs.laying.step_on.Goals as goal

pub returns-then-from-job-clause-lays : goal.returns-then-from-job-clause-lays
returns-then-from-job-clause-lays g c sound node =
    let E = g.P.R.Ring.exact in let v = g.P.R.Ring.value in let f = g.P.R.Ring.listed in
    let o = c.args.sheet.now in let n = c.descend.new.self in let N = g.P.Placer.plan o.placer in let list = c.args.list.now in
    let job = c.job.result.now in let a = c.args.cursor.node in
    let long : a.level ≤ length a.path = omega arith in let high : a.level < job.depth = omega arith in
    let at : cursor_at o.cursor ≡ Some (cursor_view c.args.cursor) = ap cursor_at c.requires in
    let s : Sheet E = sheet_of E f o.cursor o.count list in
    let does = subst (λ k. Does E (descend E N s) (λ _. Unit {0}) c.descend.result s (sheet_of E f n.cursor k list)) (sym c.descend.ensures.kept.1) (c.descend.ensures.does (records E f o.count list)) in
    steps_down E N s (cursor_view c.args.cursor) at (above E v job N c.job.ensures a long high) (sheet_of E f n.cursor n.count list) (usable (length list)) c.descend.result
    (has_children E v job N c.job.ensures a long high (subst (AtNode N) at node)) does

pub returns-then-from-job-clause-nearer : goal.returns-then-from-job-clause-nearer
returns-then-from-job-clause-nearer g c =
    let E = g.P.R.Ring.exact in let v = g.P.R.Ring.value in
    let o = c.args.sheet.now in let n = c.descend.new.self in let N = g.P.Placer.plan o.placer in
    let job = c.job.result.now in let a = c.args.cursor.node in
    let long : a.level ≤ length a.path = omega arith in let high : a.level < job.depth = omega arith in
    let s : Sheet E = record { cursor = cursor_at o.cursor; records = [] } in
    let t : Sheet E = record { cursor = cursor_at n.cursor; records = [] } in
    subst (λ k. IfOk c.descend.result (λ _. steps_left k (cursor_at n.cursor) < steps_left o.count (cursor_at o.cursor))) (sym c.descend.ensures.kept.1)
    (down_nearer E N s (cursor_view c.args.cursor) (ap cursor_at c.requires) (above E v job N c.job.ensures a long high) t o.count c.descend.result (no_deeper E v job N c.job.ensures) (c.descend.ensures.does []))

pub returns-in_err-lay-clause-lays : goal.returns-in_err-lay-clause-lays
returns-in_err-lay-clause-lays g c sound node =
    let E = g.P.R.Ring.exact in let v = g.P.R.Ring.value in let f = g.P.R.Ring.listed in
    let o = c.args.sheet.now in let n = c.lay.new.self in let N = g.P.Placer.plan o.placer in let list = c.args.list.now in
    let job = c.job.result.now in let a = c.args.cursor.node in
    let long : a.level ≤ length a.path = omega arith in let low : job.depth ≤ a.level = omega arith in
    let at : cursor_at o.cursor ≡ Some (cursor_view c.args.cursor) = ap cursor_at c.requires in
    let here = subst (AtNode N) at node in
    let s : Sheet E = sheet_of E f o.cursor o.count list in
    let t : Sheet E = sheet_of E f n.cursor n.count c.lay.new.list in
    let fault = c.in_err-lay.field-0.0 in
    let l = c.in_err-lay.ensures.lays in
    stops E N (usable (length list)) c.from_residual.result fault s t c.from_residual.ensures.1 (refused_same E (lay_by E N (usable (length list)) (λ b. l.0) s) (Answers E v N l.0) fault s t l.2)
    (is_stuck E N s (cursor_view c.args.cursor) at g.row.P-R.Denot (usable (length list)) l.0 (Answers E v N l.0) t (at_depth E v job N c.job.ensures a long low here) here (subst (λ q. entry_at E v N q l.0) at (l.1 sound)) fault l.2)

pub returns-clause-lays : goal.returns-clause-lays
returns-clause-lays g c sound node =
    let E = g.P.R.Ring.exact in let v = g.P.R.Ring.value in let f = g.P.R.Ring.listed in
    let o = c.args.sheet.now in let n = c.lay.new.self in let N = g.P.Placer.plan o.placer in let list = c.args.list.now in
    let at : cursor_at o.cursor ≡ Some (cursor_view c.args.cursor) = ap cursor_at c.requires in
    let s : Sheet E = sheet_of E f o.cursor o.count list in
    let t : Sheet E = sheet_of E f n.cursor n.count c.lay.new.list in
    let l = c.in_ok-lay.ensures.lays in
    laid_one E N (usable (length list)) l.0 s (cursor_view c.args.cursor) t at (subst (λ q. entry_at E v N q l.0) at (l.1 sound))
    (laid_there E N s (cursor_view c.args.cursor) at g.row.P-R.Denot (usable (length list)) l.0 (Answers E v N l.0) t c.in_ok-lay.field-0 l.2)

pub returns-clause-listed : goal.returns-clause-listed
returns-clause-listed g c =
    let E = g.P.R.Ring.exact in let v = g.P.R.Ring.value in let f = g.P.R.Ring.listed in
    let o = c.args.sheet.now in let n = c.lay.new.self in let N = g.P.Placer.plan o.placer in let list = c.args.list.now in
    let s : Sheet E = sheet_of E f o.cursor o.count list in
    let t : Sheet E = sheet_of E f n.cursor n.count c.lay.new.list in
    let l = c.in_ok-lay.ensures.lays in
    let w = c.in_ok-lay.ensures.listed in
    let one = laid_there E N s (cursor_view c.args.cursor) (ap cursor_at c.requires) g.row.P-R.Denot (usable (length list)) l.0 (Answers E v N l.0) t c.in_ok-lay.field-0 l.2 in
    one_written o.count n.count list c.lay.new.list w.1.0 (has_room E f o.count list one.room) w.0 w.1.1

-- ---- led on
pub returns-then-from-job-clause-led : goal.returns-then-from-job-clause-led
returns-then-from-job-clause-led g c sound =
    let E = g.P.R.Ring.exact in let f = g.P.R.Ring.listed in
    let o = c.args.sheet.now in let n = c.descend.new.self in let N = g.P.Placer.plan o.placer in let list = c.args.list.now in
    let s : Sheet E = sheet_of E f o.cursor o.count list in
    let does = subst (λ k. Does E (descend E N s) (λ _. Unit {0}) c.descend.result s (sheet_of E f n.cursor k list)) (sym c.descend.ensures.kept.1) (c.descend.ensures.does (records E f o.count list)) in
    led_down E N (usable (length list)) (λ _. Unit {0}) c.descend.result s (sheet_of E f n.cursor n.count list) does

pub returns-in_err-lay-clause-led : goal.returns-in_err-lay-clause-led
returns-in_err-lay-clause-led g c sound =
    let E = g.P.R.Ring.exact in let v = g.P.R.Ring.value in let f = g.P.R.Ring.listed in
    let o = c.args.sheet.now in let n = c.lay.new.self in let N = g.P.Placer.plan o.placer in let list = c.args.list.now in
    led_by_laying E N (usable (length list)) v (g.P.Placer.sound o.placer) (Err c.in_err-lay.field-0.0) (sheet_of E f o.cursor o.count list) (sheet_of E f n.cursor n.count c.lay.new.list) sound c.in_err-lay.ensures.lays

pub returns-clause-led : goal.returns-clause-led
returns-clause-led g c sound =
    let E = g.P.R.Ring.exact in let v = g.P.R.Ring.value in let f = g.P.R.Ring.listed in
    let o = c.args.sheet.now in let n = c.lay.new.self in let N = g.P.Placer.plan o.placer in let list = c.args.list.now in
    led_by_laying E N (usable (length list)) v (g.P.Placer.sound o.placer) (Ok c.in_ok-lay.field-0) (sheet_of E f o.cursor o.count list) (sheet_of E f n.cursor n.count c.lay.new.list) sound c.in_ok-lay.ensures.lays
