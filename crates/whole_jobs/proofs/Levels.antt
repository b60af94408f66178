-- How far down a node is, by the level and the depth that the code compares.
use Rattle.std.proofs.Common.{◌≡◌, ◌<◌, ◌≤◌, true, length, sym, ap, arith}
use Rattle.std.proofs.lemmas.List.{length-take-le}
use Rattle.exact.specs.Cyclotomic.{Cyclotomic}
use Rattle.exact.specs.JobNumbers.{JobNumbers}
use Rattle.chains.specs.Addresses.{level, child_count, node_tile, has_node}
use Rattle.chains.proofs.Nodes.{has_child_only}
use Rattle.jobs.specs.Limits.{most_depth}
use Rattle.ring_jobs.specs.RingJobs.{job_numbers}
use Rattle.ring_jobs.specs.declared.job.RingJob.{RingJob}
use Rattle.nodes.specs.Views.{address_view}
use Rattle.nodes.specs.declared.address.Address.{Address}
use Rattle.calls.proofs.Families.{shallow, first_child_there}
use Rattle.whole_jobs.proofs.Steps.{within_depth}

module _ {S : Type 0} (E : Cyclotomic) (v : S → E.Elem) (job : RingJob S) (N : JobNumbers) (e : job_numbers E v job ≡ N) where
  depth_is : N.depth ≡ job.depth
  depth_is = ap (λ M. M.depth) (sym e)

  pub no_deeper : N.depth ≤ most_depth
  no_deeper = let low = shallow E v job in omega (arith, depth_is, low)

  module _ (a : Address) (long : a.level ≤ length a.path) where
    level_is : level (address_view a) ≡ a.level
    level_is = length-take-le a.level a.path long

    pub above : a.level < job.depth → level (address_view a) < N.depth
    above h = omega (arith, depth_is, level_is)

    pub at_depth : job.depth ≤ a.level → has_node N (address_view a) ≡ true → level (address_view a) ≡ N.depth
    at_depth h here = omega (arith, depth_is, level_is, within_depth N (address_view a) here)

    pub has_children : a.level < job.depth → has_node N (address_view a) ≡ true → 0 < child_count N (node_tile N (address_view a))
    has_children h here = (has_child_only N (address_view a) 0 (first_child_there E v job N e (address_view a) here (above h))).2
