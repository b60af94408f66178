-- What each fault of a list refuses with.
use Rattle.std.specs.Prelude.{◌≡◌, Some}
use Rattle.refusals.specs.Refusal.{Refusal}
use Rattle.refusals.specs.declared.Layer.TheVariants as layers
use Rattle.faults.specs.Told.{buffer_refusal}
use Rattle.rings.specs.Faults.{ring_refusal}
use Rattle.calls.specs.declared.fault.ListFault.{ListFault}
use Rattle.calls.specs.declared.fault.ListFault.TheVariants.{Short, BeyondLimits, Ring}

-- a short list is a short buffer; a number beyond its limit: 3, place 0, a refusal of the sheet; the ring's is passed on whole
abbrev pub list_refusal : ListFault → Refusal
list_refusal (Short f) = buffer_refusal f
list_refusal BeyondLimits = record { number = Some 3; Places = λ p. p ≡ 0; layer = layers.Sheet }
list_refusal (Ring f) = ring_refusal f
