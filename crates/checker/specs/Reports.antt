-- The answers of `checker::check` and `checker::check_passed` in numbers, read off what both promise: a type's code, or a refusal's number and place.
-- Assumes nothing.
use Rattle.std.specs.Prelude.{List, ◌≡◌, ℕ}
use Rattle.std.proofs.Common.{ap}
use Rattle.script.specs.Answers.{report_of_check}
use Rattle.script.specs.Flat.{table_in}
use Rattle.rules.specs.Checking.{check_report, CheckedBy}
use Rattle.script.specs.Answers.Named.{Checked}

pub check_reports : (limit : ℕ) (table : List ℕ) (nodes : ℕ) (entries : List ℕ) (entry_count : ℕ) {r : Checked}
    → CheckedBy limit table nodes entries entry_count r → report_of_check r ≡ check_report limit (table_in table nodes entries entry_count)
check_reports limit table nodes entries entry_count p = ap report_of_check p
