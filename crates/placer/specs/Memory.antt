-- What a memo remembers.
use Rattle.std.specs.Prelude.{◌≡◌, Some, None, Option}
use Rattle.exact.specs.Cyclotomic.{Cyclotomic}
use Rattle.exact.specs.JobNumbers.{JobNumbers}
use Rattle.job_rows.specs.declared.Placed.{Placed}
use Rattle.edges.specs.Views.{placement_view}
use Rattle.nodes.specs.Table.{there, table}
use Rattle.nodes.specs.Views.{address_view}
use Rattle.nodes.specs.declared.address.Address.{Address}
use Rattle.placer.specs.declared.memo.Held.{Held}

-- what is held is the table's entry for its address
abbrev pub Right : {S : Type 0} (E : Cyclotomic) → (S → E.Elem) → JobNumbers → Option (Held S) → Type 0
Right E value N None = Unit {0}
Right E value N (Some h) = table E N (address_view h.address) ≡ there (placement_view E value h.placed)

-- the placement that is held for an address, and none where none is held for it
abbrev pub Recalled : {S : Type 0} → Option (Held S) → Address → Option (Placed S) → Type 0
Recalled None a (Some p) = ⊥
Recalled None a None = Unit {0}
Recalled (Some h) a (Some p) = (address_view h.address ≡ address_view a) × (h.placed ≡ p)
Recalled (Some h) a None = (h.address.seed ≡ a.seed) × (h.address.level ≡ a.level) × (h.address.path ≡ a.path) → ⊥
