use Rattle.std.proofs.Common.{ap, ◌∙◌, arith}
use Rattle.exact.specs.Models.{tenfold}
use Rattle.exact.proofs.Powers.{power_at}
use Rattle.exact.proofs.TenfoldLaws.{tenfold_laws}
use Rattle.tenfold.proofs.TenfoldRing.unit.Goals as goal

pub returns-in-0 : goal.returns-in-0
returns-in-0 c = ap tenfold.of c.small.ensures ∙ power_at tenfold tenfold_laws c.args.k 0 c.in-0.is

pub returns-in-1 : goal.returns-in-1
returns-in-1 c = ap tenfold.of c.small-in-1.ensures ∙ power_at tenfold tenfold_laws c.args.k 1 c.in-1.is

pub returns-in-2 : goal.returns-in-2
returns-in-2 c = ap tenfold.of c.small-in-2.ensures ∙ power_at tenfold tenfold_laws c.args.k 2 c.in-2.is

pub returns-in-3 : goal.returns-in-3
returns-in-3 c = ap tenfold.of c.small-in-3.ensures ∙ power_at tenfold tenfold_laws c.args.k 3 c.in-3.is

pub returns-in-4 : goal.returns-in-4
returns-in-4 c = ap tenfold.of c.small-in-4.ensures ∙ power_at tenfold tenfold_laws c.args.k 4 c.in-4.is

pub returns-in-5 : goal.returns-in-5
returns-in-5 c = ap tenfold.of c.small-in-5.ensures ∙ power_at tenfold tenfold_laws c.args.k 5 c.in-5.is

pub returns-in-6 : goal.returns-in-6
returns-in-6 c = ap tenfold.of c.small-in-6.ensures ∙ power_at tenfold tenfold_laws c.args.k 6 c.in-6.is

pub returns-in-7 : goal.returns-in-7
returns-in-7 c = ap tenfold.of c.small-in-7.ensures ∙ power_at tenfold tenfold_laws c.args.k 7 c.in-7.is

pub returns-in-8 : goal.returns-in-8
returns-in-8 c = ap tenfold.of c.small-in-8.ensures ∙ power_at tenfold tenfold_laws c.args.k 8 c.in-8.is

pub returns-in_default : goal.returns-in_default
returns-in_default c = ap tenfold.of c.small-in_default.ensures ∙ power_at tenfold tenfold_laws c.args.k 9 (omega arith)
