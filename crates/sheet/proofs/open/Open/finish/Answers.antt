use Rattle.std.proofs.Common.{refl, sym, ◌∙◌}
use Rattle.sheet.proofs.Refusing.{is_there}
use Rattle.sheet.proofs.open.Open.finish.Goals as goal

pub returns-then-is_some : goal.returns-then-is_some
returns-then-is_some g c = let p = is_there c.args.self.cursor (sym c.is_some.ensures ∙ c.if-is_some.true) in ((p.0, p.1), refl, refl)
