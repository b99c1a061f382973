-- The answers of a check and a run of a table of records in numbers, read off what they promise. Assumes nothing.
use Rattle.std.specs.Prelude.{List, ◌≡◌, ℕ}
use Rattle.std.proofs.Common.{ap}
use Rattle.script.specs.Answers.{report_of_check, report_of_run}
use Rattle.script.specs.Table.{Table}
use Rattle.script.specs.Answers.Named.{Ran}
use Rattle.rules.specs.Checking.{path_limit, check_report}
use Rattle.rules.specs.Running.{Run, run_report}
use Rattle.records.specs.Records.{Checks, Runs}
use Rattle.script.specs.Answers.Named.{Checked}

pub check_reports : (t : Table) {r : Checked} → Checks t r → report_of_check r ≡ check_report path_limit t
check_reports t p = ap report_of_check p

pub run_reports : (t : Table) (values cells : List ℕ) (used : ℕ) {r : Ran} {left : List ℕ} → Runs t values cells used r left
    → report_of_run r ≡ run_report t values cells used
run_reports t values cells used p = ap (λ (x : Run). report_of_run x.answer) p
