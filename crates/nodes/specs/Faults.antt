-- What each fault of a placer refuses with: 3 for an address with no node, place 0; the ring's is passed on whole.
use Rattle.std.specs.Prelude.{◌≡◌, Some}
use Rattle.refusals.specs.Refusal.{Refusal}
use Rattle.refusals.specs.declared.Layer.TheVariants as layers
use Rattle.rings.specs.Faults.{ring_refusal}
use Rattle.nodes.specs.declared.fault.PlaceFault.{PlaceFault}
use Rattle.nodes.specs.declared.fault.PlaceFault.TheVariants.{NoNode, Ring}

abbrev pub place_refusal : PlaceFault → Refusal
place_refusal NoNode = record { number = Some 3; Places = λ p. p ≡ 0; layer = layers.Sheet }
place_refusal (Ring f) = ring_refusal f
