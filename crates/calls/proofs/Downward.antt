-- Where a cursor comes to when it goes down.
use Rattle.std.proofs.Common.{◌≡◌, ◌+◌, ◌<◌, Some, None, Option, MatchOption, ap, arith}
use Rattle.chains.specs.Addresses as chains
use Rattle.chains.specs.Addresses.{child_address}
use Rattle.jobs.specs.Limits.{most_depth}
use Rattle.nodes.specs.Views.{address_view}
use Rattle.calls.specs.Sheets as sheets
use Rattle.calls.specs.Views.{cursor_at}
use Rattle.calls.specs.declared.cursor.Cursor.{Cursor}

pub gone_down : (c : Cursor) (r : Option Cursor) → c.node.level < most_depth →
    MatchOption r (c.node.level ≡ most_depth) (λ d. (address_view d.node ≡ child_address (address_view c.node) 0) × (d.descents ≡ c.descents + 1)) →
    cursor_at r ≡ Some (record { node = child_address (address_view c.node) 0; descents = c.descents + 1 })
gone_down c None h e = absurd (omega arith)
gone_down c (Some d) h e = λ i. Some (record { node = e.0 i; descents = e.1 i })
