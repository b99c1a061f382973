-- The answers of `runner::run` and `runner::run_passed` in numbers, read off what both promise: a value's kind and bits or the node of the error state, each
-- with the used count, or a refusal's number and place. Assumes nothing.
use Rattle.std.specs.Prelude.{List, ◌≡◌, ℕ}
use Rattle.std.proofs.Common.{ap}
use Rattle.script.specs.Answers.{report_of_run}
use Rattle.script.specs.Flat.{table_in}
use Rattle.script.specs.Answers.Named.{Ran}
use Rattle.rules.specs.Running.{Run, run_report}
use Rattle.runner.specs.Answered.{Answered}

module _ (table : List ℕ) (nodes : ℕ) (entries : List ℕ) (entry_count : ℕ) (values cells : List ℕ) (used : ℕ) where
  pub run_reports : {r : Ran} {left : List ℕ} → Answered table nodes entries entry_count values cells used r left
      → report_of_run r ≡ run_report (table_in table nodes entries entry_count) values cells used
  run_reports p = ap (λ (x : Run). report_of_run x.answer) p
