-- A run drops no cell and adds at most as many as the tree has nodes, whether it ends in a value or in the error state. Assumes nothing.
use Rattle.std.specs.Prelude.{List, ℕ, ◌+◌, ◌≤◌, length}
use Rattle.script.specs.declared.Value.{Value}
use Rattle.rules.specs.Evaluation.{Outcome, gave, failed}

-- the cells that a run ends with
abbrev pub cells_of : Outcome → List Value
cells_of (gave v cs) = cs
cells_of (failed n cs) = cs

-- an outcome with all of the n cells before it and at most s more
pub record Grows (n s : ℕ) (o : Outcome) : Type 0 where
  pub keeps : n ≤ length (cells_of o)
  pub bounded : length (cells_of o) ≤ n + s
