use Rattle.calls.specs.Views.{cursor_at, sheet_of}
use Rattle.whole_jobs.specs.Whole.{steps_left}
use Rattle.whole_jobs.proofs.Going.{SoFar}
use Rattle.whole_jobs.proofs.laying.lay_all.Given as goal

abbrev pub invariant-loop-cursor : goal.invariant-loop-cursor
invariant-loop-cursor g l =
    let E = g.P.R.Ring.exact in let f = g.P.R.Ring.listed in let o = l.initial.sheet in let n = l.sheet in
    SoFar E (g.P.Placer.plan o.placer) (g.P.Placer.plan n.placer) (g.P.Placer.sound o.placer) (g.P.Placer.sound n.placer) o.count n.count l.initial.list l.list (sheet_of E f o.cursor o.count l.initial.list) (sheet_of E f n.cursor n.count l.list)

abbrev pub decreases-loop-cursor : goal.decreases-loop-cursor
decreases-loop-cursor g l = steps_left l.sheet.count (cursor_at l.sheet.cursor)
