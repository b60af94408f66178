-- Answers of a reading: yes or no, and why not. Assumes nothing.
use Rattle.std.proofs.Common.{true, false, Decides, refl}
use Rattle.std.proofs.lemmas.Bool.{false≢true}
use Rattle.jobs.specs.declared.draft.Misfit.{Misfit}
use Rattle.jobs.specs.declared.draft.Misfit.TheVariants.{Place as Misplaced, Numbers, Memory}
use Rattle.jobs.specs.Drafts.{Unfit}

pub decides_no : {P : Type 0} → (P → ⊥) → Decides false P
decides_no none = ((λ e. absurd (false≢true e)), λ p. absurd (none p))

pub decides_yes : {P : Type 0} → P → Decides true P
decides_yes p = ((λ _. p), λ _. refl)

pub unfit_map : (e : Misfit) {P Q : Type 0} → Unfit P e → (P → Q) → Unfit Q e
unfit_map Misplaced h f = h
unfit_map Numbers h f = f h
unfit_map Memory h f = tt
