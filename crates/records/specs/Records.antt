-- What a check and a run of a lent table of records promise. Assumes nothing.
use Rattle.std.specs.Prelude.{List, ◌≡◌, ℕ}
use Rattle.script.specs.Table.{Table}
use Rattle.script.specs.Answers.Named.{Ran}
use Rattle.rules.specs.Checking.{path_limit, check_table}
use Rattle.rules.specs.Running.{Run, run_table}
use Rattle.script.specs.Answers.Named.{Checked}

-- the answer of a check; nothing lent changes
abbrev pub Checks : Table → Checked → Type 0
Checks t r = r ≡ check_table path_limit t

-- the answer of a run, and what the lent cells then hold
abbrev pub Runs : Table → List ℕ → List ℕ → ℕ → Ran → List ℕ → Type 0
Runs t values cells used r left = ◌≡◌ {A = Run} (record { answer = r; cells = left }) (run_table t values cells used)
