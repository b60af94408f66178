-- Several descents, one after the other.
use Rattle.std.proofs.Common.{◌≡◌, ℕ, suc, ◌+◌, ◌-◌, ◌<◌, ◌≤◌, if◌then◌else◌, Some, None, refl, ap, ◌∙◌, arith, lt-ltb}
use Rattle.std.proofs.lemmas.Bool.{le-ltb}
use Rattle.chains.specs.Addresses.{level}
use Rattle.calls.specs.Sheets.{Cursor}
use Rattle.saves.specs.Records.{below, deeper}

deeper_on : (depth n : ℕ) (c : Cursor) → level c.node < depth → deeper depth (suc n) c ≡ deeper depth n (below c)
unfolding deeper
deeper_on depth n c h = ap (λ b. if b then deeper depth n (below c) else None) (lt-ltb _ _ h)

deeper_off : (depth n : ℕ) (c : Cursor) → depth ≤ level c.node → deeper depth (suc n) c ≡ None
unfolding deeper
deeper_off depth n c h = ap (λ b. if b then deeper depth n (below c) else None) (le-ltb _ _ h)

deeper_done : (depth : ℕ) (c : Cursor) → deeper depth 0 c ≡ Some c
unfolding deeper
deeper_done depth c = refl

-- the same where i of n descents are done
pub step_on : (depth n i : ℕ) (c : Cursor) → i < n → level c.node < depth → deeper depth (n - i) c ≡ deeper depth (n - (i + 1)) (below c)
step_on depth n i c h l = let e : n - i ≡ suc (n - (i + 1)) = omega arith in ap (λ k. deeper depth k c) e ∙ deeper_on depth (n - (i + 1)) c l

pub step_off : (depth n i : ℕ) (c : Cursor) → i < n → depth ≤ level c.node → deeper depth (n - i) c ≡ None
step_off depth n i c h l = let e : n - i ≡ suc (n - (i + 1)) = omega arith in ap (λ k. deeper depth k c) e ∙ deeper_off depth (n - (i + 1)) c l

pub step_end : (depth n i : ℕ) (c : Cursor) → n ≤ i → deeper depth (n - i) c ≡ Some c
step_end depth n i c h = let e : n - i ≡ 0 = omega arith in ap (λ k. deeper depth k c) e ∙ deeper_done depth c
