use Rattle.std.proofs.Common.{sym, ◌∙◌, arith}
use Rattle.std.proofs.lemmas.List.{length-take-le}
use Rattle.saves.proofs.reading.level_of.Goals as goal

pub returns-clause-counted : goal.returns-clause-counted
returns-clause-counted c = let a = c.args.node.now in c.from.ensures ∙ sym (length-take-le a.level a.path (omega arith))
