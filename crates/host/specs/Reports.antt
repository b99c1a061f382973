-- The answers of `host::check_text` and `host::run_text` in numbers, read off what they promise. The numbers that C gets are these, packed: `LosesNothing`.
-- Assumes nothing.
use Rattle.std.specs.Prelude.{List, ◌≡◌, ℕ}
use Rattle.std.proofs.Common.{ap}
use Rattle.script.specs.Answers.{report_of_check, report_of_run}
use Rattle.script.specs.Answers.Named.{Ran}
use Rattle.rules.specs.Running.{Run}
use Rattle.host.specs.Texts.{check_text, run_text, check_text_report, run_text_report, RanTo}
use Rattle.script.specs.Answers.Named.{Checked}

pub check_reports : (text : List ℕ) {r : Checked} → r ≡ check_text text → report_of_check r ≡ check_text_report text
check_reports text p = ap report_of_check p

pub run_reports : (text values cells : List ℕ) (used : ℕ) {r : Ran} {left : List ℕ} → RanTo (run_text text values cells used) r left
    → report_of_run r ≡ run_text_report text values cells used
run_reports text values cells used p = ap (λ (x : Run). report_of_run x.answer) p
