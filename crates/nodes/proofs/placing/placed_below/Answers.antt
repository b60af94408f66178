use Rattle.std.proofs.Common.{◌+◌, cond, take, drop, sym, ap, ◌∙◌, ap₂, arith}
use Rattle.chains.specs.Addresses.{leads_down, node_placement, placement_below}
use Rattle.edges.specs.Views.{placement_view}
use Rattle.ring_jobs.specs.RingJobs.{job_numbers}
use Rattle.nodes.specs.Table.{there, outside, kept_below}
use Rattle.nodes.specs.Views.{address_view}
use Rattle.nodes.proofs.Testing.{no_value, a_value}
use Rattle.nodes.proofs.Downward.{fault_entry_of, kept_on, placed_on, leads_on_from, off_below, seed_way, seed_node, seed_leads}
use Rattle.nodes.proofs.Paths.{next_child, no_child_left, node_seed}
use Rattle.nodes.proofs.placing.placed_below.Goals as goal

pub returns-in_err-placed : goal.returns-in_err-placed
returns-in_err-placed g c =
    let E = g.R.Ring.exact in let v = g.R.Ring.value in let N = job_numbers E v c.args.job.now in
    let a = c.args.at.now in
    let h = (node_seed N a.seed (take a.level a.path) c.requires).0 in
    let k = (no_value _ _ _ c.seed_row.result _ c.in_err-placed.ensures.value c.seed_row.ensures).1 in
    absurd (omega arith)

pub loop-k-init : goal.loop-k-init
loop-k-init g c =
    let E = g.R.Ring.exact in let v = g.R.Ring.value in let L = g.met.R.Ring.lawful in let b = g.met.R.Ring.bounded in
    let N = job_numbers E v c.args.job.now in
    let a = c.args.at.now in let path = take a.level a.path in let seed = c.in_ok-placed.placed in
    let e = rw c.from.ensures at (a_value _ _ _ c.seed_row.result seed c.in_ok-placed.ensures.value c.seed_row.ensures).1 in
    let p = placement_view E v seed in
    let items = sym c.children-k-items.ensures in (
      seed_way E L v b N a.seed path seed e ∙ ap (kept_below E N p) items,
      seed_node E L v b N a.seed path seed e ∙ ap (placement_below E N p) items,
      ap (leads_down N seed.tile) c.children-k-items.ensures ∙ seed_leads E L v b N a.seed path seed e (node_seed N a.seed path c.requires).1,
    )

pub loop-k-preserved : goal.loop-k-preserved
loop-k-preserved g c =
    let E = g.R.Ring.exact in let v = g.R.Ring.value in
    let N = job_numbers E v c.args.job.now in
    let items = c.children-k-items.result.now in let i = c.loop-k.k-index in
    let p = placement_view E v c.loop-k.placed in
    let rest = drop (i + 1) items in let k = c.from-in-loop-k.result in
    let more = next_child items i k c.loop-k-test.true c.from-in-loop-k.ensures in
    let down = sym (ap (leads_down N p.tile) more) ∙ c.loop-k.invariant.2 in
    let q = placement_view E v c.in_ok-placed-2.placed in
    let e = c.in_ok-placed-2.ensures in (
      c.loop-k.invariant.0 ∙ ap (kept_below E N p) more ∙ kept_on E N p k rest down q e,
      c.loop-k.invariant.1 ∙ ap (placement_below E N p) more ∙ placed_on E N p k rest down q e,
      leads_on_from E N p k rest down q e,
    )

pub returns-in_err-placed-2 : goal.returns-in_err-placed-2
returns-in_err-placed-2 g c =
    let E = g.R.Ring.exact in let v = g.R.Ring.value in
    let N = job_numbers E v c.args.job.now in
    let items = c.children-k-items.result.now in let i = c.loop-k.k-index in
    let p = placement_view E v c.loop-k.placed in
    let rest = drop (i + 1) items in let k = c.from-in-loop-k.result in
    let more = next_child items i k c.loop-k-test.true c.from-in-loop-k.ensures in
    let down = sym (ap (leads_down N p.tile) more) ∙ c.loop-k.invariant.2 in
    let f = c.in_err-placed-2.field-0.0 in
    let off = off_below E N p k rest down f c.in_err-placed-2.ensures in
    let way = c.loop-k.invariant.0 ∙ ap (kept_below E N p) more ∙ off.0 in
    fault_entry_of E v c.from_residual-in_err-placed-2.result f _ c.from_residual-in_err-placed-2.ensures.1 (off.1 ∙ sym (ap (λ b. cond b (there (node_placement E N (address_view c.args.at.now))) outside) way))

pub returns : goal.returns
unfolding kept_below placement_below
returns g c =
    let E = g.R.Ring.exact in let v = g.R.Ring.value in
    let N = job_numbers E v c.args.job.now in
    let p = placement_view E v c.loop-k.placed in
    let none = no_child_left c.children-k-items.result.now c.loop-k.k-index c.loop-k-test.false in
    let way = c.loop-k.invariant.0 ∙ ap (kept_below E N p) none in
    let at = c.loop-k.invariant.1 ∙ ap (placement_below E N p) none in
    sym (ap₂ (λ b x. cond b (there x) outside) way at)
