-- Demand 3 (docs/RUNS.md) read off the contracts of `records::check` and `records::run`: where a check of a table of records answers with a type, a run of the
-- same table, within the limits and on cells and values that some typing fits, answers with a value of that type, and what it leaves in the lent cells
-- fits an extension of that typing. Assumes nothing.
use Rattle.std.specs.Prelude.{true, List, ◌≡◌, ℕ, Ok}
use Rattle.std.proofs.Common.{sym, subst, ◌∙◌}
use Rattle.script.specs.Table.{Table, entries_of}
use Rattle.script.specs.Answers.Named.{Ran}
use Rattle.rules.specs.Checking.{path_limit}
use Rattle.rules.specs.Demand3.{EndsWithValue}
use Rattle.rules.proofs.Demand3.{accepted_ends_with_value}
use Rattle.rules.specs.Running.{Run, values_of, within_limits}
use Rattle.rules.specs.Typings.{Fits, HaveTypes}
use Rattle.records.specs.Records.{Checks, Runs}
use Rattle.script.specs.Answers.Named.{Checked}

-- a is the answer of the check; b and left are the answer of the run and what the lent cells then hold
pub checked_runs_with_value : (t : Table) (type : ℕ) (values cells : List ℕ) (used : ℕ) (typing : List ℕ) (a : Checked) (b : Ran) (left : List ℕ)
    → Checks t a
    → Runs t values cells used b left
    → a ≡ Ok type
    → within_limits t values cells used ≡ true
    → Fits typing (values_of used cells)
    → HaveTypes typing (values_of t.entry_count values) (entries_of t)
    → EndsWithValue typing type (record { answer = b; cells = left })
checked_runs_with_value t type values cells used typing a b left checks runs accepted within fits typed =
    subst (λ (run : Run). EndsWithValue typing type run) (sym runs)
    (accepted_ends_with_value path_limit t type values cells used typing (sym checks ∙ accepted) within fits typed)
