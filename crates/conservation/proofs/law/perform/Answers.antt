use Rattle.std.proofs.Common.{◌≡◌, List, length, map, take, MatchOption, sym, ap, ◌∙◌, subst}
use Rattle.chains.specs.Books.{book_of}
use Rattle.chains.specs.Counts.{reading}
use Rattle.chains.specs.Placements.{outlines}
use Rattle.chains.specs.Theorems.{RealLengths}
use Rattle.calls.specs.Records.{records, laid_pieces}
use Rattle.calls.specs.Sheets.{start}
use Rattle.calls.specs.Views.{sheet_of}
use Rattle.meters.specs.Pieces.{Readable}
use Rattle.runs.specs.Runs.{Call}
use Rattle.sheet.specs.declared.open.Open.{Open}
use Rattle.conservation.specs.Answered.{call_view, Makes}
use Rattle.conservation.proofs.Ending.{map_result, list_readable, lengths_real, option_reads, finished_so, starts_so}
use Rattle.conservation.proofs.Conserved.{conserves}
use Rattle.conservation.proofs.law.perform.Goals as goal

pub returns-clause-law : goal.returns-clause-law
returns-clause-law g c =
    let E = g.P.R.Ring.exact in let N = g.P.Placer.plan c.args.placer in
    conserves E g.met.P.R.Ring.lawful N (g.met.P.Placer.branching c.args.placer) c.in_ok-sheet.ensures.starts.0.judged.accepted g.M.Meter.group g.met.M.Meter.lawful
    (g.M.Meter.reads c.args.meter.now E g.P.R.Ring.value (book_of E N)) (g.met.M.Meter.reads_edges c.args.meter.now (book_of E N)) (length c.args.list.now) (map (call_view (length c.args.buffer.now)) c.args.calls.now)

pub returns-clause-runs : goal.returns-clause-runs
returns-clause-runs g c sound =
    let E = g.P.R.Ring.exact in let v = g.P.R.Ring.value in let f = g.P.R.Ring.listed in let L = g.met.P.R.Ring.lawful in
    let p = c.args.placer in let N = g.P.Placer.plan p in let B = g.met.P.Placer.branching p in
    let o = c.in_ok-sheet.sheet in let m = c.make_all.new.sheet in
    let list = c.args.list.now in let rows = c.make_all.new.list in
    let cs : List Call = map (call_view (length c.args.buffer.now)) c.args.calls.now in
    let xs = take (length c.args.calls.now) c.make_all.new.answers in
    let starts = c.in_ok-sheet.ensures.starts in
    let placed = starts.1 in
    let plan : g.P.Placer.plan o.placer ≡ N = ap g.P.Placer.plan placed in
    let kept : g.P.Placer.plan m.placer ≡ N = c.make_all.ensures.kept ∙ plan in
    let made = subst (λ M. Makes E v M (length list) cs (sheet_of E f m.cursor m.count rows) m.count xs c.args.buffer.now c.make_all.new.buffer) plan
    (c.make_all.ensures.makes (subst g.P.Placer.sound (sym placed) sound) (g.met.P.Placer.branching o.placer) starts.2
    (starts_so E (g.P.Placer.plan o.placer) f o.cursor o.count list (starts.3 ∙ ap (λ M. (start E M).cursor) (sym plan)) starts.2)) in
    let G = g.M.Meter.group in let reads = g.M.Meter.reads c.args.meter.now E v (book_of E N) in
    let R = g.met.M.Meter.reads_edges c.args.meter.now (book_of E N) in
    let K = starts.0 in
    let real = lengths_real E v N B f (length list) cs m.cursor m.count rows xs c.args.buffer.now c.make_all.new.buffer made L K G g.met.M.Meter.lawful reads R in
    let can = list_readable E v N B f (length list) cs m.cursor m.count rows xs c.args.buffer.now c.make_all.new.buffer made in
    map_result c.end_of.result.sheet _ _ _ _
    (λ h e. (
      finished_so E v N B f (length list) cs m.cursor m.count rows xs c.args.buffer.now c.make_all.new.buffer made h.count e.2 e.0,
      option_reads E v N B f (length list) cs m.cursor m.count rows xs c.args.buffer.now c.make_all.new.buffer made L K G g.met.M.Meter.lawful reads R g.M.Meter.worth c.end_of.result.reading e.0
          (subst (λ M. Readable E M (length rows) m.count (records E f m.count rows) → RealLengths E (book_of E M) → MatchOption c.end_of.result.reading ⊥ (λ x. g.M.Meter.worth x ≡ reading G (g.M.Meter.reads c.args.meter.now E v (book_of E M)) (outlines E (book_of E M) (laid_pieces (records E f m.count rows))))) kept e.3 can real),
    ))
    (λ u e. (
      subst (λ (s : Open _ _ _ _ _ _ _ _ _). Makes E v N (length list) cs (sheet_of E f s.cursor s.count rows) s.count xs c.args.buffer.now c.make_all.new.buffer) (sym e.1) made,
      (e.0.0, ap (λ (s : Open _ _ _ _ _ _ _ _ _). s.cursor) e.1 ∙ e.0.1),
      e.2,
    ))
    c.end_of.ensures.finished
