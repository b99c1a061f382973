-- The answer of `writer::write` in numbers, read off what it promises: how many bytes were written, or a refusal's number and place. Assumes nothing.
use Rattle.std.specs.Prelude.{List, ◌≡◌, ℕ}
use Rattle.std.proofs.Common.{ap}
use Rattle.script.specs.Answers.{report_of_writing}
use Rattle.script.specs.Table.{Table}
use Rattle.text.specs.Writing.{Outcome, outcome, writing, writing_report}
use Rattle.script.specs.Answers.Named.{Writing}

pub write_reports : (t : Table) (out : List ℕ) {r : Writing} {left : List ℕ} → outcome r left ≡ writing t out → report_of_writing r ≡ writing_report t out
write_reports t out p = ap (λ (x : Outcome). report_of_writing x.answer) p
