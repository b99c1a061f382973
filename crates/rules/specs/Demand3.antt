-- Demand 3 (docs/RUNS.md): an accepted script, run within the limits on any cells and entry values that some typing fits, ends with a value, never in
-- the error state, never with a refusal; every such typing has an extension that fits the end cells and gives the value the reported type.
-- Proved over the rules and evaluation, for every path limit. Assumes nothing.
use Rattle.std.specs.Prelude.{◌≡◌, List, ℕ, Ok}
use Rattle.script.specs.Answers.Named.{Ran}
use Rattle.script.specs.declared.Ended.{Ended}
use Rattle.script.specs.declared.Value.{Value}
use Rattle.rules.specs.Running.{Run, values_of}
use Rattle.rules.specs.Typings.{HasType, Fits, Extends}
pub mod Congruence
pub mod Meaning
pub mod Memory
pub mod Promises
pub mod Stands

-- the run ends with a value, and some extension of the typing fits the end cells, as they then stand in the lent bytes, and gives the value the type
pub record EndsWithValue (typing : List ℕ) (type : ℕ) (run : Run) : Type 0 where
  pub value : Value
  pub used : ℕ
  pub answers : run.answer ≡ Ok (Ended.Gave value used)
  pub extension : List ℕ
  pub extends : Extends typing extension
  pub fits : Fits extension (values_of used run.cells)
  pub typed : HasType extension value type
