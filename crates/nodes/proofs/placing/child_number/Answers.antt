use Rattle.std.proofs.Common.{ap, ◌∙◌}
use Rattle.edges.specs.Views.{placement_view}
use Rattle.nodes.specs.Views.{fault_entry}
use Rattle.nodes.proofs.Testing.{no_value, a_value}
use Rattle.nodes.proofs.Downward.{no_child, child_there, child_outside, ring_entry, fault_entry_of}
use Rattle.nodes.proofs.placing.child_number.Goals as goal

pub returns-in_err-child : goal.returns-in_err-child
returns-in_err-child g c =
    let E = g.R.Ring.exact in let v = g.R.Ring.value in
    let h = no_value _ _ _ c.child_row.result _ c.in_err-child.ensures.value c.child_row.ensures in
    fault_entry_of E v c.from_residual.result _ _ c.from_residual.ensures.1
    (ap (fault_entry E) h.0 ∙ no_child E g.met.R.Ring.lawful v c.args.job.now (placement_view E v c.args.above.now) c.args.k h.1)

pub returns-in_err-child_under : goal.returns-in_err-child_under
returns-in_err-child_under g c =
    let E = g.R.Ring.exact in let v = g.R.Ring.value in
    let p = placement_view E v c.args.above.now in
    let h = a_value _ _ _ c.child_row.result c.in_ok-child.child c.in_ok-child.ensures.value c.child_row.ensures in
    ring_entry E v c.from_residual-in_err-child_under.result _ _ c.from_residual-in_err-child_under.ensures.1
    (child_outside E g.met.R.Ring.lawful v c.args.job.now p c.args.k c.in_ok-child.child h.0 h.1 c.in_err-child_under.ensures.is.1)

pub returns : goal.returns
returns g c =
    let E = g.R.Ring.exact in let v = g.R.Ring.value in
    let p = placement_view E v c.args.above.now in
    let h = a_value _ _ _ c.child_row.result c.in_ok-child.child c.in_ok-child.ensures.value c.child_row.ensures in
    let k = c.in_ok-child_under.ensures.is in
    child_there E g.met.R.Ring.lawful v c.args.job.now p c.args.k c.in_ok-child.child h.0 h.1 _ k.0 k.1
