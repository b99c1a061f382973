-- The answer of `reader::read` in numbers, read off what it promises: how many nodes and entries were read, or a refusal's number and place. Assumes nothing.
use Rattle.std.specs.Prelude.{List, ◌≡◌, ℕ, length}
use Rattle.std.proofs.Common.{ap}
use Rattle.script.specs.Answers.{report_of_reading}
use Rattle.script.specs.Flat.{nodes_in}
use Rattle.text.specs.Reading.{Left, leaves, reading_in, reading_report}
use Rattle.script.specs.Answers.Named.{Reading}

pub read_reports : (text table entries : List ℕ) {r : Reading} {left es : List ℕ} → leaves r left es ≡ reading_in text table entries
    → report_of_reading r ≡ reading_report text (length (nodes_in table)) (length entries)
unfolding reading_in
read_reports text table entries p = ap (λ (x : Left). report_of_reading x.answer) p
