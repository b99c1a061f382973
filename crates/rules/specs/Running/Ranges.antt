-- Evaluation on values of 32 bits gives values of 32 bits, as long as the cells stay within those that are lent. Assumes nothing.
use Rattle.std.specs.Prelude.{List, ℕ}
use Rattle.script.specs.declared.Value.{Value}
use Rattle.rules.specs.Evaluation.{Outcome, gave, failed}
use Rattle.rules.specs.Running.Laws.{InRange, AllInRange}

-- an outcome whose value and cells have 32 bits
pub data OutcomeInRange : Outcome → Type 0 where
  gave_in_range : {v : Value} {cs : List Value} → InRange v → AllInRange cs → OutcomeInRange (gave v cs)
  failed_in_range : {n : ℕ} {cs : List Value} → AllInRange cs → OutcomeInRange (failed n cs)
