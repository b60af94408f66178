-- Starting.
use Rattle.exact.specs.Cyclotomic.{Cyclotomic}
use Rattle.exact.specs.JobNumbers.{JobNumbers}
use Rattle.job_check.specs.Checks.{Fails}
use Rattle.sheet.specs.declared.fault.SheetFault.{SheetFault}
use Rattle.sheet.specs.declared.fault.SheetFault.TheVariants.{NoRoom, WrongLevel, NothingPending, StillPending, Check, Place, List, File, Buffer}

-- no sheet is started where the check of the job refuses it, and for no other reason
abbrev pub NotStarted : {S : Type 0} (E : Cyclotomic) → (S → E.Elem) → JobNumbers → SheetFault S → Type 0
NotStarted E value N (Check f) = Fails E N value f
NotStarted E value N NoRoom = ⊥
NotStarted E value N WrongLevel = ⊥
NotStarted E value N NothingPending = ⊥
NotStarted E value N StillPending = ⊥
NotStarted E value N (Place f) = ⊥
NotStarted E value N (List f) = ⊥
NotStarted E value N (File f) = ⊥
NotStarted E value N (Buffer f) = ⊥
