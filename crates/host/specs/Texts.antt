-- The whole answers of the calls over script text: the text is read (its refusals come first), and what it means is then checked or run as a table.
-- Assumes nothing.
use Rattle.std.specs.Prelude.{List, ◌≡◌, ℕ, Err}
use Rattle.script.specs.Answers.{Report, report_of_check, report_of_run}
use Rattle.script.specs.Limits.{node_limit, entry_limit}
use Rattle.script.specs.Answers.Named.{Ran}
use Rattle.rules.specs.Checking.{path_limit, check_table}
use Rattle.rules.specs.Running.{Run, run_table}
use Rattle.text.specs.Grammar.{Meaning, means, refused, meaning_of}
use Rattle.text.specs.Reading.{table_read}
use Rattle.script.specs.Answers.Named.{Checked}
pub mod Bounds

abbrev pub check_meant : Meaning → Checked
check_meant (means es ns) = check_table path_limit (table_read es ns node_limit entry_limit)
check_meant (refused r) = Err r

-- the checker's answer to a text
unfoldable pub check_text : List ℕ → Checked
check_text text = check_meant (meaning_of text)

abbrev pub run_meant : Meaning → List ℕ → List ℕ → ℕ → Run
run_meant (means es ns) values cells used = run_table (table_read es ns node_limit entry_limit) values cells used
run_meant (refused r) values cells used = record { answer = Err r; cells = cells }

-- the runner's answer to a text, and what the lent cells then hold
unfoldable pub run_text : List ℕ → List ℕ → List ℕ → ℕ → Run
run_text text values cells used = run_meant (meaning_of text) values cells used

-- what the two report, in the numbers of `Answers` in `script`
abbrev pub check_text_report : List ℕ → Report
check_text_report text = report_of_check (check_text text)

abbrev pub run_text_report : List ℕ → List ℕ → List ℕ → ℕ → Report
run_text_report text values cells used = report_of_run (run_text text values cells used).answer

-- what a call of the runner promises of its answer and of what the lent cells then hold
abbrev pub RanTo : Run → Ran → List ℕ → Type 0
RanTo run r left = ◌≡◌ {A = Run} (record { answer = r; cells = left }) run
