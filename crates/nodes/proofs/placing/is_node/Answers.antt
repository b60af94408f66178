use Rattle.std.proofs.Common.{◌<◌, ◌≤◌, length, take, sym, ap, ◌∙◌, arith}
use Rattle.std.proofs.lemmas.List.{length-take-le}
use Rattle.chains.specs.Addresses.{leads_down}
use Rattle.ring_jobs.specs.RingJobs.{coefficients, job_numbers}
use Rattle.nodes.proofs.Numbered.{depth_is}
use Rattle.nodes.proofs.Paths.{too_deep, no_seed, by_path}
use Rattle.nodes.proofs.placing.is_node.Goals as goal

pub returns-then-from-job : goal.returns-then-from-job
returns-then-from-job g c =
    let E = g.R.Ring.exact in let v = g.R.Ring.value in let j = c.args.job.now in let N = job_numbers E v j in
    let a = c.args.at.now in
    let deep = length-take-le a.level a.path (omega arith) in
    let depth = depth_is (coefficients E v) j in
    let more : N.depth < length (take a.level a.path) = omega arith in
    sym (too_deep N a.seed (take a.level a.path) more)

pub returns-in-Some : goal.returns-in-Some
returns-in-Some g c =
    let E = g.R.Ring.exact in let v = g.R.Ring.value in let j = c.args.job.now in let N = job_numbers E v j in
    let a = c.args.at.now in
    let deep = length-take-le a.level a.path (omega arith) in
    let depth = depth_is (coefficients E v) j in
    let fits : length (take a.level a.path) ≤ N.depth = omega arith in
    let h = rw c.from-2.ensures at c.in-Some.ensures in
    c.path_leads_down.ensures ∙ ap (leads_down N c.in-Some.seed.tile) c.children.ensures ∙ sym (by_path N a.seed (take a.level a.path) _ fits h.0 h.1)

pub returns-in-None : goal.returns-in-None
returns-in-None g c =
    let E = g.R.Ring.exact in let v = g.R.Ring.value in
    let a = c.args.at.now in
    sym (no_seed (job_numbers E v c.args.job.now) a.seed (take a.level a.path) (rw c.from-2.ensures at c.in-None.ensures))
