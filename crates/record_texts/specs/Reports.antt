-- The answers of a writing from a table of records and of a reading into one in numbers, read off what they promise. Assumes nothing.
use Rattle.std.specs.Prelude.{List, ◌≡◌, ℕ}
use Rattle.std.proofs.Common.{ap}
use Rattle.script.specs.Answers.{report_of_reading, report_of_writing}
use Rattle.script.specs.Table.{Table}
use Rattle.script.specs.declared.Node.{Node}
use Rattle.text.specs.Reading.{reading_report}
use Rattle.text.specs.Reading as Read
use Rattle.text.specs.Writing.{writing_report}
use Rattle.text.specs.Writing as Write
use Rattle.record_texts.specs.Texts.{Writes, Reads}
use Rattle.script.specs.Answers.Named.{Reading}
use Rattle.script.specs.Answers.Named.{Writing}

pub write_reports : (t : Table) (out : List ℕ) {r : Writing} {left : List ℕ} → Writes t out r left → report_of_writing r ≡ writing_report t out
write_reports t out p = ap (λ (x : Write.Outcome). report_of_writing x.answer) p

pub read_reports : (text : List ℕ) (n m : ℕ) {r : Reading} {ns : List Node} {es : List ℕ} → Reads text n m r ns es
    → report_of_reading r ≡ reading_report text n m
read_reports text n m p = ap (λ (x : Read.Outcome). report_of_reading x.answer) p
