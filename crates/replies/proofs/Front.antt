-- The reply to a text is that to its front, where that has one byte more than a text may have, or is all of it.
use Rattle.std.proofs.Common.{ℕ, ◌<◌, ◌≤◌, Bool, List, length, take, ◌⊎◌, inl, inr, ap, subst, arith}
use Rattle.std.proofs.lemmas.Bool.{cases_lt}
use Rattle.std.proofs.lemmas.List.{take_all, length-take-le}
use Rattle.jobs.specs.Limits.{most_bytes}
use Rattle.jobs.specs.Refusals.{overlong, stopped}
use Rattle.jobs.proofs.Widths.{job_fits}
use Rattle.replies.specs.Replies.{TextReply, of_job, of_text}

module _ (text : List ℕ) (refused : Bool) (out : List ℕ) where
  -- what is longer than a text may be is refused, as its front is
  longer : most_bytes < length text → (front : List ℕ) → most_bytes < length front → TextReply front refused out → TextReply text refused out
  longer h front l (of_job ring N s r) = absurd (omega (arith, l, ap length s.spelt, (job_fits N s.in_range).short))
  longer h front l (of_text e n p (overlong m a b) w) = of_text e n p (overlong h a b) w
  longer h front l (of_text e n p (stopped m before f rest at why) w) = absurd (omega (arith, l, m))

  pub from_front : (k : ℕ) → most_bytes < k → TextReply (take k text) refused out → TextReply text refused out
  from_front k h r = go (cases_lt (length text) k)
    where
      go : (length text < k) ⊎ (k ≤ length text) → TextReply text refused out
      go (inl short) = subst (λ t. TextReply t refused out) (take_all k text (omega (arith, short))) r
      go (inr long) = longer (omega (arith, h, long)) (take k text) (omega (arith, h, length-take-le k text long)) r
