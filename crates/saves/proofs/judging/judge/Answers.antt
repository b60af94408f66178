use Rattle.std.proofs.Common.{[]}
use Rattle.saves.proofs.Restoring.{told_whole}
use Rattle.saves.proofs.judging.judge.Goals as goal

pub returns-clause-answer : goal.returns-clause-answer
returns-clause-answer g c s = told_whole g.P.R.Ring.exact g.met.P.R.Ring.lawful (g.P.Placer.plan c.args.placer.now) c.scan.ensures.shallow c.args.file.now c.type_inv.file g.P.R.Ring.listed [] c.scan.new.list c.scan.result (c.scan.ensures.answer s)
