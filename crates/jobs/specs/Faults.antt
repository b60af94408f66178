-- A text is refused as a fault says.
use Rattle.std.specs.Prelude.{ℕ, List, IfSome}
use Rattle.faults.specs.Told.{told}
use Rattle.faults.specs.declared.TextFault.{TextFault}
use Rattle.jobs.specs.Refusals.{Refused}

-- want of memory says nothing of the text
abbrev pub Refuses : List ℕ → TextFault → Type 0
Refuses t e = IfSome (told e) (λ (p : ℕ × ℕ). Refused t p.0 p.1)
