-- What a refusal says.
use Rattle.std.specs.Prelude.{ℕ, Option}
use Rattle.refusals.specs.declared.Layer.{Layer}

-- its number, if it has one; the places that it may carry; the layer that it arose in
pub record Refusal : Type 1 where
  pub number : Option ℕ
  pub Places : ℕ → Type 0
  pub layer : Layer
