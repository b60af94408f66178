use Rattle.std.proofs.Common.{◌≡◌, length, map, take, drop}
use Rattle.ring_jobs.specs.Shapes.{Branching}
use Rattle.calls.specs.Sheets.{start}
use Rattle.calls.specs.Views.{sheet_of}
use Rattle.conservation.specs.Answered.{call_view, Makes}
use Rattle.conservation.proofs.making.make_all.Given as goal

abbrev pub invariant-loop-i : goal.invariant-loop-i
invariant-loop-i g l =
    let E = g.P.R.Ring.exact in let v = g.P.R.Ring.value in let f = g.P.R.Ring.listed in
    let o = l.initial.sheet in let N = g.P.Placer.plan o.placer in
    (g.P.Placer.sound o.placer → Branching N → o.count ≡ 0 → sheet_of E f o.cursor o.count l.initial.list ≡ start E N →
    Makes E v N (length l.initial.list) (map (call_view (length l.initial.buffer)) (take l.i l.calls)) (sheet_of E f l.sheet.cursor l.sheet.count l.list) l.sheet.count (take l.i l.answers) l.initial.buffer l.buffer)
    × (drop l.i l.answers ≡ drop l.i l.initial.answers)
    × ((length l.list ≡ length l.initial.list) × (length l.buffer ≡ length l.initial.buffer) × (length l.answers ≡ length l.initial.answers))
    × (g.P.Placer.plan l.sheet.placer ≡ N)
    × (g.P.Placer.sound o.placer → g.P.Placer.sound l.sheet.placer)
