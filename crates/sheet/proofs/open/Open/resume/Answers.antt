use Rattle.std.proofs.Common.{length}
use Rattle.calls.specs.Limits.{usable}
use Rattle.calls.specs.Sheets.{Sheet}
use Rattle.calls.specs.Views.{sheet_of}
use Rattle.files.proofs.Resumed.{resumed_at_node}
use Rattle.sheet.proofs.open.Open.resume.Goals as goal

pub invariant_of-self-2 : goal.invariant_of-self-2
invariant_of-self-2 g c = record { counted = c.in_ok-judged.ensures.limit }

pub returns-clause-node : goal.returns-clause-node
returns-clause-node g c sound at =
    let E = g.P.R.Ring.exact in let p = c.args.self.now.placer in let N = g.P.Placer.plan p in
    let s : Sheet E = sheet_of E g.P.R.Ring.listed c.in_ok-judged.judged.cursor c.in_ok-judged.judged.count c.resume.new.list in
    resumed_at_node E N (g.met.P.Placer.branching p) (usable (length c.args.list.now)) c.args.file.now s (c.in_ok-judged.ensures.answer sound).0
