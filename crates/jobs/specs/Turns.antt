-- What reading one line after another answers.
use Rattle.std.specs.Prelude.{◌≡◌, ℕ, ◌+◌, List, [], length, ℤ, IfSome}
use Rattle.lines.specs.Letters.{Letter}
use Rattle.lines.specs.Lines.{Line, FirstLine}
use Rattle.lines.specs.declared.Misread.TheVariants.{Misspelt as Garbled, Memory as NoneLeft}
use Rattle.jobs.specs.declared.reading.LineFault.{LineFault}
use Rattle.jobs.specs.declared.reading.LineFault.TheVariants.{Unread, Unadded}
use Rattle.jobs.specs.declared.draft.Misfit.TheVariants.{Place as NoPlace, Numbers, Memory as NoRoom}
use Rattle.faults.specs.declared.TextFault.{TextFault}
use Rattle.faults.specs.declared.TextFault.TheVariants.{Misspelt, Misplaced, Unfit, Memory}
use Rattle.faults.specs.Told.{told}
use Rattle.jobs.specs.Fronts.{Front, Place, Takes, Complete}
use Rattle.jobs.specs.Refusals.{At, Why}

-- the first line of t leads from f to g, and more is left
abbrev pub Taken : List ℕ → Front → List ℕ → Front → Type 0
Taken t f more g = (a : Letter) × (zs : List ℤ) × FirstLine t a zs more × Place f a × Takes f a zs g

-- no line of t is read after f; line is the number of the next
abbrev pub Halted : List ℕ → Front → ℕ → TextFault → Type 0
Halted t f line e = (before : List Line) → line ≡ length before + 1 → IfSome (told e) (λ (p : ℕ × ℕ). Why before f t p.0 p.1)

-- all lines of t are read, and say f
abbrev pub ReadUp : List ℕ → Front → Type 0
ReadUp t f = ((before : List Line) × At t before f []) × Complete f

-- the fault of a text whose line has the fault e
abbrev pub fault_at : LineFault → ℕ → TextFault
fault_at (Unread Garbled) line = Misspelt line
fault_at (Unread NoneLeft) line = Memory
fault_at (Unadded NoPlace) line = Misplaced line
fault_at (Unadded Numbers) line = Unfit line
fault_at (Unadded NoRoom) line = Memory
