-- What evaluation keeps of values: a property of a value among so many used cells, which words of 32 bits and truths have, which more cells keep, and
-- which the location of a new cell has. If environment and cells have it, so have the value and the cells at the end. Assumes nothing.
use Rattle.std.specs.Prelude.{Bool, List, ℕ, suc, ◌^◌, ◌≤◌, ◌<◌, length}
use Rattle.script.specs.declared.Value.{Value}
use Rattle.script.specs.declared.Value.TheVariants.{Word, Truth, Location}
use Rattle.rules.specs.Evaluation.{Outcome, gave, failed}
use Rattle.rules.specs.Evaluation.Every.{Every}

pub record Lasting (P : ℕ → Value → Type 0) : Type 0 where
  pub word : (m w : ℕ) → w < 2 ^ 32 → P m (Word w)
  pub truth : (m : ℕ) (b : Bool) → P m (Truth b)
  pub next : (m : ℕ) → P (suc m) (Location m)
  pub more : (m k : ℕ) (v : Value) → m ≤ k → P m v → P k v

-- an outcome whose value and cells have it, among its cells
pub data OutcomeHas (P : ℕ → Value → Type 0) : Outcome → Type 0 where
  gave_has : {v : Value} {cs : List Value} → P (length cs) v → Every (P (length cs)) cs → OutcomeHas P (gave v cs)
  failed_has : {n : ℕ} {cs : List Value} → Every (P (length cs)) cs → OutcomeHas P (failed n cs)
