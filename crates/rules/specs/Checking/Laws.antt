-- Every path's condition is satisfiable, at its start and wherever it ends, so that at an `if` one of the branches is always possible (`one_branch`), and
-- a branch is followed exactly if it is. Every decision tree has a path. Assumes nothing.
use Rattle.std.specs.Prelude.{◌≡◌}
use Rattle.std.proofs.Math.Bool.{true}
use Rattle.script.specs.declared.Refusal.{Refusal}
use Rattle.rules.specs.Paths.{Path, Paths, ends, stops, forks}
use Rattle.rules.specs.Satisfiable.{satisfiable}
use Rattle.rules.specs.Symbolic.{Symbolic}

-- some assignment satisfies the path's condition
pub record Possible (p : Path) : Type 0 where
  pub possible : satisfiable p.condition ≡ true

-- wherever a path ends
pub data Everywhere (P : Path → Type 0) : Paths → Type 0 where
  at_end_lem : {v : Symbolic} {p : Path} → P p → Everywhere P (ends v p)
  at-stop : {r : Refusal} → Everywhere P (stops r)
  at_fork : {t u : Paths} → Everywhere P t → Everywhere P u → Everywhere P (forks t u)
