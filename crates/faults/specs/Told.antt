-- What each fault of a text refuses with: its number, and a line from 1 on or 0 for the whole text.
use Rattle.std.specs.Prelude.{◌≡◌, ℕ, Some, None, Option}
use Rattle.std.specs.Option.{option_map}
use Rattle.refusals.specs.Refusal.{Refusal}
use Rattle.refusals.specs.declared.Layer.TheVariants.{Text, Sheet}
use Rattle.faults.specs.declared.TextFault.{TextFault}
use Rattle.faults.specs.declared.TextFault.TheVariants.{Misspelt, Misplaced, Unfit, Overlong, Memory}
use Rattle.faults.specs.declared.TooShort.{TooShort}

-- number and place; want of memory has neither
abbrev pub told : TextFault → Option (ℕ × ℕ)
told (Misspelt line) = Some (1, line)
told (Misplaced line) = Some (2, line)
told (Unfit line) = Some (3, line)
told Overlong = Some (3, 0)
told Memory = None

-- the only place is the one told; without one it is 0
abbrev pub only_place : Option (ℕ × ℕ) → ℕ → Type 0
only_place (Some t) p = p ≡ t.1
only_place None p = p ≡ 0

abbrev pub text_refusal : TextFault → Refusal
text_refusal f = record { number = option_map (λ (t : ℕ × ℕ). t.0) (told f); Places = only_place (told f); layer = Text }

-- a buffer that is too short: number 15, place 0
abbrev pub buffer_refusal : TooShort → Refusal
buffer_refusal f = record { number = Some 15; Places = λ p. p ≡ 0; layer = Sheet }
