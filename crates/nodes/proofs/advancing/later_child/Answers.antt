use Rattle.ring_jobs.specs.RingJobs.{job_numbers}
use Rattle.nodes.proofs.Onward.{from_seed, one_down, all_down}
use Rattle.nodes.proofs.advancing.later_child.Goals as goal

pub loop-level-init : goal.loop-level-init
loop-level-init g c =
    let N = job_numbers g.R.Ring.exact g.R.Ring.value c.args.job.now in let a = c.args.at.now in
    from_seed N a.seed a.path a.level c.children-k-items.result.now c.children-k-items.ensures c.from.result c.tile_of_seed-tile.result c.from.ensures c.tile_of_seed-tile.ensures

pub loop-level-preserved : goal.loop-level-preserved
loop-level-preserved g c =
    let N = job_numbers g.R.Ring.exact g.R.Ring.value c.args.job.now in let a = c.args.at.now in
    one_down N a.seed a.path a.level c.children-k-items.result.now c.children-k-items.ensures c.loop-level.tile c.loop-level.level c.loop-level-test.true
    c.from-in-loop-level.result c.tile_of_child-tile.result c.loop-level.nearest c.child_after.result c.or-nearest.result
    c.loop-level.invariant c.from-in-loop-level.ensures c.tile_of_child-tile.ensures c.child_after.ensures c.or-nearest.ensures

pub returns : goal.returns
returns g c =
    let N = job_numbers g.R.Ring.exact g.R.Ring.value c.args.job.now in let a = c.args.at.now in
    all_down N a.seed a.path a.level c.children-k-items.result.now c.children-k-items.ensures c.loop-level.tile c.loop-level.level c.loop-level.nearest c.loop-level.invariant c.loop-level-test.false
