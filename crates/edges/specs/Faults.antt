-- What each fault of the making of a chain refuses with: the ring's is passed on whole, want of memory has no number.
use Rattle.std.specs.Prelude.{◌≡◌, None}
use Rattle.refusals.specs.Refusal.{Refusal}
use Rattle.refusals.specs.declared.Layer.TheVariants as layers
use Rattle.rings.specs.Faults.{ring_refusal}
use Rattle.edges.specs.declared.fault.ChainFault.{ChainFault}
use Rattle.edges.specs.declared.fault.ChainFault.TheVariants.{Ring, Memory}

abbrev pub chain_refusal : ChainFault → Refusal
chain_refusal (Ring f) = ring_refusal f
chain_refusal Memory = record { number = None; Places = λ p. p ≡ 0; layer = layers.Book }
