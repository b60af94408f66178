use Rattle.std.proofs.Common.{sym, refl, ap, ◌∙◌, subst}
use Rattle.chains.specs.Addresses.{seed_on}
use Rattle.job_check.specs.Checks.{Passes}
use Rattle.calls.specs.Sheets.{come_to, start, AtNode}
use Rattle.calls.proofs.Staying.{stays_at_start}
use Rattle.sheet.proofs.open.Open.start.Goals as goal

pub returns-in-Ok-clause-starts : goal.returns-in-Ok-clause-starts
unfolding start
returns-in-Ok-clause-starts g c = (subst (Passes g.P.R.Ring.exact) c.job-job.ensures c.in-Ok.ensures, refl, refl, c.first-cursor.ensures ∙ ap (λ M. come_to (seed_on M 0)) c.job-job.ensures)

pub returns-in-Ok-clause-node : goal.returns-in-Ok-clause-node
returns-in-Ok-clause-node g c =
    let N = g.P.Placer.plan c.args.placer in
    subst (AtNode N) (sym (c.first-cursor.ensures ∙ ap (λ M. come_to (seed_on M 0)) c.job-job.ensures)) (stays_at_start N)
