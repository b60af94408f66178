-- What each fault of a ring refuses with.
use Rattle.std.specs.Prelude.{◌≡◌, Some}
use Rattle.refusals.specs.Refusal.{Refusal}
use Rattle.refusals.specs.declared.Layer.TheVariants.{Ring}
use Rattle.rings.specs.declared.fault.RingFault.{RingFault}
use Rattle.rings.specs.declared.fault.RingFault.TheVariants.{OffPlane}

-- off the plane: number 8, place 0
abbrev pub ring_refusal : RingFault → Refusal
ring_refusal OffPlane = record { number = Some 8; Places = λ p. p ≡ 0; layer = Ring }
