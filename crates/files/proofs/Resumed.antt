-- What an accepted resume leads to.
use Rattle.std.proofs.Common.{◌≡◌, ℕ, ◌≤◌, Bool, true, false, if◌then◌else◌, nat_le, List, length, Some, None, Option, Ok, Err, Result, refl, ap, ◌∙◌, subst, leb-true}
use Rattle.exact.specs.Cyclotomic.{Cyclotomic}
use Rattle.exact.specs.JobNumbers.{JobNumbers}
use Rattle.ring_jobs.specs.Shapes.{Branching}
use Rattle.calls.specs.Limits.{most_pieces}
use Rattle.calls.specs.Sheets.{Sheet, AtNode, no_room}
use Rattle.calls.proofs.Keeping.{at_node_from_start}
use Rattle.files.specs.Files.{spelled, restored}
use Rattle.files.specs.Calls.{Reason, about_nodes, if_restored, resume}
use Rattle.files.proofs.Files.{is_restored}

module _ (E : Cyclotomic) (N : JobNumbers) where
  pub resume_means : (places : ℕ) (file : List ℕ) (t : Sheet E) → resume E N places file ≡ Ok t → (restored E N file ≡ Some t) × (length t.records ≤ places)
  unfolding resume
  resume_means places file t e = go (restored E N file) refl e
    where
      room : (u : Sheet E) (b : Bool) → nat_le (length u.records) places ≡ b → ◌≡◌ {A = Result (Sheet E) Reason} (if b then Ok u else Err (about_nodes no_room)) (Ok t) → (u ≡ t) × (length u.records ≤ places)
      room u true f e = (cc, leb-true _ _ f)
      room u false f e = absurd cc

      go : (o : Option (Sheet E)) → restored E N file ≡ o → if_restored E N places file o ≡ Ok t → (restored E N file ≡ Some t) × (length t.records ≤ places)
      go None f e = absurd cc
      go (Some u) f e = let x = room u _ refl e in (f ∙ ap Some x.0, subst (λ (z : Sheet E). length z.records ≤ places) x.0 x.1)

  pub resumed_at_node : Branching N → (places : ℕ) (file : List ℕ) (t : Sheet E) → resume E N places file ≡ Ok t → AtNode N t.cursor
  resumed_at_node B places file t e = at_node_from_start E N B most_pieces (spelled E N file) t (is_restored E N file t (resume_means places file t e).0).0
