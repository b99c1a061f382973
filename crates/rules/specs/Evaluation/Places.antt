-- A run that ends in the error state names a node of its tree. Assumes nothing.
use Rattle.std.specs.Prelude.{List, ℕ, ◌<◌}
use Rattle.script.specs.declared.Value.{Value}
use Rattle.rules.specs.Evaluation.{Outcome, gave, failed}

-- a value, or the error state at a node below m
pub data FailsBelow (m : ℕ) : Outcome → Type 0 where
  gives : {v : Value} {cs : List Value} → FailsBelow m (gave v cs)
  fails : {n : ℕ} {cs : List Value} → n < m → FailsBelow m (failed n cs)
