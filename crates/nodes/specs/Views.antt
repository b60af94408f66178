-- What the code's addresses and answers stand for.
use Rattle.std.specs.Prelude.{ℕ, List, ◌++◌, take, Some, None, Option, Ok, Err, Result}
use Rattle.exact.specs.Cyclotomic.{Cyclotomic}
use Rattle.chains.specs.Addresses as chains
use Rattle.job_rows.specs.declared.Placed.{Placed}
use Rattle.edges.specs.Views.{placement_view}
use Rattle.nodes.specs.Table.{Entry, there, missing, outside}
use Rattle.nodes.specs.declared.address.Address.{Address}
use Rattle.nodes.specs.declared.fault.PlaceFault.{PlaceFault}
use Rattle.nodes.specs.declared.fault.PlaceFault.TheVariants.{NoNode, Ring}

-- the child numbers below the level are not looked at
abbrev pub address_view : Address → chains.Address
address_view a = record { seed = a.seed; path = take a.level a.path }

-- the address that is answered, if one is
abbrev pub address_at : Option Address → Option chains.Address
address_at None = None
address_at (Some a) = Some (address_view a)

-- the ancestor at a level: the same path, as far as there
abbrev pub ancestor : Address → ℕ → chains.Address
ancestor a level = record { seed = a.seed; path = take level a.path }

-- where a path leads on from an address, if there is one
abbrev pub further : chains.Address → Option (List ℕ) → Option chains.Address
further a None = None
further a (Some path) = Some (record { seed = a.seed; path = a.path ++ path })

-- the entry of the table that an answer tells
abbrev pub fault_entry : (E : Cyclotomic) → PlaceFault → Entry E
fault_entry E NoNode = missing
fault_entry E (Ring f) = outside

abbrev pub entry_of : {S : Type 0} (E : Cyclotomic) → (S → E.Elem) → Result (Placed S) PlaceFault → Entry E
entry_of E value (Ok p) = there (placement_view E value p)
entry_of E value (Err f) = fault_entry E f
