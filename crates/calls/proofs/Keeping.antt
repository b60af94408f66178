-- Accepted moves keep the cursor at a node of the job.
use Rattle.std.proofs.Common.{◌≡◌, ℕ, true, List, Some, subst}
use Rattle.exact.specs.Cyclotomic.{Cyclotomic}
use Rattle.exact.specs.JobNumbers.{JobNumbers}
use Rattle.chains.specs.Addresses.{has_node}
use Rattle.chains.proofs.Nodes.{has_child}
use Rattle.ring_jobs.specs.Shapes.{Branching}
use Rattle.calls.specs.Sheets.{Cursor, Sheet, AtNode, start}
use Rattle.calls.specs.Moves.{Move}
use Rattle.calls.proofs.Moving.{Moved, descends, lays, sets_aside, Replayed, done, on}
use Rattle.calls.proofs.Families.{has_children}
use Rattle.calls.proofs.Staying.{stays, stays_at_start}

module _ (E : Cyclotomic) (N : JobNumbers) (B : Branching N) where
  at_node_of : (s : Sheet E) (c : Cursor) → s.cursor ≡ Some c → AtNode N s.cursor → has_node N c.node ≡ true
  at_node_of s c e h = subst (AtNode N) e h

  at_node_moved : (places : ℕ) (m : Move) (s t : Sheet E) → Moved E N places m s t → AtNode N s.cursor → AtNode N t.cursor
  at_node_moved places _ _ _ (descends s c e below) h = has_child N c.node 0 (at_node_of s c e h) below (has_children N B c.node)
  at_node_moved places _ _ _ (lays s c p e at room f) h = stays N c.node (at_node_of s c e h)
  at_node_moved places _ _ _ (sets_aside s c e room) h = stays N c.node (at_node_of s c e h)

  at_node_replayed : (places : ℕ) (ms : List Move) (s t : Sheet E) → Replayed E N places ms s t → AtNode N s.cursor → AtNode N t.cursor
  at_node_replayed places _ _ _ (done s) h = h
  at_node_replayed places _ _ _ (on m ms s t u g r) h = at_node_replayed places ms t u r (at_node_moved places m s t g h)

  pub at_node_from_start : (places : ℕ) (ms : List Move) (t : Sheet E) → Replayed E N places ms (start E N) t → AtNode N t.cursor
  unfolding start
  at_node_from_start places ms t r = at_node_replayed places ms (start E N) t r (stays_at_start N)
