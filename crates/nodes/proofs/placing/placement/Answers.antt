use Rattle.std.proofs.Common.{cond, ◌&&◌, sym, ap, ◌∙◌, ap₂}
use Rattle.chains.specs.Books.{book_of}
use Rattle.chains.specs.Addresses.{node_placement}
use Rattle.edges.specs.Views.{placement_view}
use Rattle.ring_jobs.specs.RingJobs.{job_numbers}
use Rattle.nodes.specs.OnPlane.{kept_corners}
use Rattle.nodes.specs.Table.{there, missing, outside, kept_way, node_on_plane, table}
use Rattle.nodes.specs.Views.{address_view}
use Rattle.nodes.proofs.Downward.{fault_entry_of, fault_means, there_means}
use Rattle.nodes.proofs.placing.placement.Goals as goal

pub returns-then-not-is_node : goal.returns-then-not-is_node
unfolding table
returns-then-not-is_node g c =
    let E = g.R.Ring.exact in let v = g.R.Ring.value in
    let N = job_numbers E v c.args.job.now in
    let a = address_view c.args.at.now in
    sym (ap (λ b. cond b (cond (node_on_plane E N a) (there (node_placement E N a)) outside) missing) (sym c.is_node.ensures ∙ c.if-not-is_node.true))

pub returns-in_err-placed : goal.returns-in_err-placed
unfolding table node_on_plane
returns-in_err-placed g c =
    let E = g.R.Ring.exact in let v = g.R.Ring.value in
    let N = job_numbers E v c.args.job.now in
    let a = address_view c.args.at.now in
    let f = c.in_err-placed.field-0.0 in
    let off = fault_means E f (node_placement E N a) (kept_way E N a) c.in_err-placed.ensures in
    fault_entry_of E v c.from_residual.result f _ c.from_residual.ensures.1
    (off.1 ∙ sym (ap₂ (λ b k. cond b (cond (k && kept_corners E (book_of E N) (node_placement E N a)) (there (node_placement E N a)) outside) missing) (sym c.is_node.ensures ∙ c.if-not-is_node.false) off.0))

pub returns : goal.returns
unfolding table node_on_plane
returns g c =
    let E = g.R.Ring.exact in let v = g.R.Ring.value in
    let N = job_numbers E v c.args.job.now in
    let a = address_view c.args.at.now in
    let p = placement_view E v c.in_ok-placed.placed in
    let k = there_means E p (node_placement E N a) (kept_way E N a) c.in_ok-placed.ensures in
    c.with_corners.ensures ∙ ap (λ q. cond (kept_corners E (book_of E N) q) (there q) outside) k.1
    ∙ sym (ap₂ (λ b w. cond b (cond (w && kept_corners E (book_of E N) (node_placement E N a)) (there (node_placement E N a)) outside) missing) (sym c.is_node.ensures ∙ c.if-not-is_node.false) k.0)
