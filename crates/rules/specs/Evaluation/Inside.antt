-- Locations stay inside: from an environment and cells whose locations are all below the used count, evaluation ends with a value and cells of which
-- the same holds, or in the error state with such cells. A `get` or a `set` through such a location finds its cell. Assumes nothing.
use Rattle.std.specs.Prelude.{Bool, List, ◌≡◌, ℕ, ◌<◌}
use Rattle.std.proofs.Math.Option.{some}
use Rattle.std.proofs.Math.ListN.{get_elem?}
use Rattle.script.specs.declared.Value.{Value}
use Rattle.script.specs.declared.Value.TheVariants.{Word, Truth, Location}
use Rattle.rules.specs.Evaluation.Every.{Every}

-- ---- values below a used count

-- a word, a truth, or a location of one of the first m cells
pub data Inside (m : ℕ) : Value → Type 0 where
  word_inside : {w : ℕ} → Inside m (Word w)
  truth_inside : {b : Bool} → Inside m (Truth b)
  location_inside : {l : ℕ} → l < m → Inside m (Location l)

abbrev pub AllInside : ℕ → List Value → Type 0
AllInside m vs = Every (Inside m) vs

-- ---- the rules that look at a cell

-- the value that the cell holds
pub record Content (cs : List Value) (l : ℕ) : Type 0 where
  pub value : Value
  pub is : get_elem? cs l ≡ some value
