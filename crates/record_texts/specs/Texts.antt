-- What writing from a lent table of records and reading into one promise. Assumes nothing.
use Rattle.std.specs.Prelude.{List, ◌≡◌, ℕ}
use Rattle.script.specs.Table.{Table}
use Rattle.script.specs.declared.Node.{Node}
use Rattle.text.specs.Reading.{reading}
use Rattle.text.specs.Reading as Read
use Rattle.text.specs.Writing.{outcome, writing}
use Rattle.script.specs.Answers.Named.{Reading}
use Rattle.script.specs.Answers.Named.{Writing}

-- the answer of a writing, and what the lent bytes then hold
abbrev pub Writes : Table → List ℕ → Writing → List ℕ → Type 0
Writes t out r left = outcome r left ≡ writing t out

-- the answer of a reading into so many places and entries, and what each of them then holds
abbrev pub Reads : List ℕ → ℕ → ℕ → Reading → List Node → List ℕ → Type 0
Reads text n m r ns es = ◌≡◌ {A = Read.Outcome} (record { answer = r; lent_nodes = ns; lent_entries = es }) (reading text n m)
