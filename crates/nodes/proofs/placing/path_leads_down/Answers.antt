use Rattle.std.proofs.Common.{◌+◌, drop, sym, ap, ◌∙◌}
use Rattle.chains.specs.Addresses.{leads_down}
use Rattle.ring_jobs.specs.RingJobs.{job_numbers}
use Rattle.nodes.proofs.Paths.{next_child, no_child_left, leads_on, leads_nowhere}
use Rattle.nodes.proofs.placing.path_leads_down.Goals as goal

pub returns-in-None : goal.returns-in-None
returns-in-None g c =
    let N = job_numbers g.R.Ring.exact g.R.Ring.value c.args.job.now in
    let path = c.args.children.now in let i = c.loop-k.k-index in let t = c.loop-k.tile in let k = c.from.result in
    sym (c.loop-k.invariant ∙ ap (leads_down N t) (next_child path i k c.loop-k-test.true c.from.ensures) ∙ leads_nowhere N t k (drop (i + 1) path) c.in-None.ensures)

pub loop-k-preserved : goal.loop-k-preserved
loop-k-preserved g c =
    let N = job_numbers g.R.Ring.exact g.R.Ring.value c.args.job.now in
    let path = c.args.children.now in let i = c.loop-k.k-index in let t = c.loop-k.tile in let k = c.from.result in
    let h = c.in-Some.ensures in
    c.loop-k.invariant ∙ ap (leads_down N t) (next_child path i k c.loop-k-test.true c.from.ensures) ∙ leads_on N t k (drop (i + 1) path) _ h.0 h.1

pub returns : goal.returns
unfolding leads_down
returns g c =
    let N = job_numbers g.R.Ring.exact g.R.Ring.value c.args.job.now in
    sym (c.loop-k.invariant ∙ ap (leads_down N c.loop-k.tile) (no_child_left c.args.children.now c.loop-k.k-index c.loop-k-test.false))
