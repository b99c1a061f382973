-- Demand 3 (docs/RUNS.md) read off the contract of `runner::run`: for a table that the rules accept, lent within the limits with cells and values that
-- some typing fits, the call answers with a value, and what it leaves in the lent cells fits an extension of that typing. Assumes nothing.
use Rattle.std.specs.Prelude.{true, List, ◌≡◌, ℕ, Ok}
use Rattle.std.proofs.Common.{sym, subst}
use Rattle.script.specs.Flat.{table_in}
use Rattle.script.specs.Table.{entries_of}
use Rattle.script.specs.Answers.Named.{Ran}
use Rattle.rules.specs.Checking.{check_table}
use Rattle.rules.specs.Demand3.{EndsWithValue}
use Rattle.rules.proofs.Demand3.{accepted_ends_with_value}
use Rattle.rules.specs.Running.{Run, values_of, within_limits}
use Rattle.rules.specs.Typings.{Fits, HaveTypes}
use Rattle.runner.specs.Answered.{Answered}

module _ (table : List ℕ) (nodes : ℕ) (entries : List ℕ) (entry_count : ℕ) (values cells : List ℕ) (used : ℕ) where
  pub accepted_answers_with_value : (limit type : ℕ) (typing : List ℕ) (r : Ran) (left : List ℕ)
      → Answered table nodes entries entry_count values cells used r left
      → check_table limit (table_in table nodes entries entry_count) ≡ Ok type
      → within_limits (table_in table nodes entries entry_count) values cells used ≡ true
      → Fits typing (values_of used cells)
      → HaveTypes typing (values_of entry_count values) (entries_of (table_in table nodes entries entry_count))
      → EndsWithValue typing type (record { answer = r; cells = left })
  accepted_answers_with_value limit type typing r left answered accepted within fits typed =
      subst (λ (run : Run). EndsWithValue typing type run) (sym answered)
      (accepted_ends_with_value limit (table_in table nodes entries entry_count) type values cells used typing accepted within fits typed)
