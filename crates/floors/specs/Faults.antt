-- What each fault of a floor refuses with: want of memory is no refusal, and has no number.
use Rattle.std.specs.Prelude.{◌≡◌, None}
use Rattle.refusals.specs.Refusal.{Refusal}
use Rattle.refusals.specs.declared.Layer.TheVariants as layers
use Rattle.sheet.specs.Faults.{sheet_refusal}
use Rattle.floors.specs.declared.fault.FloorFault.{FloorFault}
use Rattle.floors.specs.declared.fault.FloorFault.TheVariants.{Sheet, Memory}

abbrev pub floor_refusal : {S : Type 0} → FloorFault S → Refusal
floor_refusal (Sheet f) = sheet_refusal f
floor_refusal Memory = record { number = None; Places = λ p. p ≡ 0; layer = layers.Sheet }
