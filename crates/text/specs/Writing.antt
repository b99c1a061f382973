-- The text of a script, and the whole answer of writing it into lent bytes (docs/SCRIPTS.md, 'Reading and writing'): the tests of the table, then
-- 36. A refusal changes nothing lent, and bytes after the text are untouched. Assumes nothing.
use Rattle.std.specs.Prelude.{Bool, List, [], ◌∷◌, ◌++◌, ℕ, zero, suc, ◌+◌, ◌/◌, ◌%◌, leb, ltb, length, take, drop, Err, Ok}
use Rattle.std.proofs.Math.Option.{Option, none, some}
use Rattle.script.specs.Answers.{Report, report_of_writing}
use Rattle.script.specs.Rows.{Row, row_of}
use Rattle.script.specs.Table.{Table, nodes_of, entries_of, fields, table_test}
use Rattle.script.specs.Tests.{pick}
use Rattle.script.specs.declared.Node.{Node}
use Rattle.script.specs.declared.Refusal.{Refusal}
use Rattle.script.specs.declared.Refusal.TheVariants.{OutputTooShort}
use Rattle.text.specs.Bytes.{lf, tab, digit0, letter_b, letter_i, letter_r, entry_word}
use Rattle.script.specs.Answers.Named.{Writing}

-- ---- fields

-- at most so many decimal digits
unfoldable pub digits_in : ℕ → ℕ → List ℕ
digits_in zero n = []
digits_in (suc k) n = pick (ltb n 10) ((digit0 + n) ∷ []) (digits_in k (n / 10) ++ ((digit0 + n % 10) ∷ []))

-- ten digits are enough for every word
abbrev pub digits : ℕ → List ℕ
digits n = digits_in 10 n

unfoldable pub type_text : ℕ → List ℕ
type_text zero = letter_i ∷ []
type_text (suc zero) = letter_b ∷ []
type_text (suc (suc t)) = letter_r ∷ type_text t

-- ---- lines

abbrev pub entry_text : ℕ → List ℕ
entry_text t = entry_word ++ (tab ∷ type_text t) ++ (lf ∷ [])

unfoldable pub operands_text : List ℕ → List ℕ
operands_text [] = []
operands_text (o ∷ os) = tab ∷ (digits o ++ operands_text os)

abbrev pub node_text_by : Option Row → Node → List ℕ
node_text_by none n = []
node_text_by (some r) n = r.word ++ operands_text (take r.count (fields n)) ++ (lf ∷ [])

unfoldable pub node_text : Node → List ℕ
node_text n = node_text_by (row_of n.kind) n

unfoldable pub entries_text : List ℕ → List ℕ
entries_text [] = []
entries_text (t ∷ ts) = entry_text t ++ entries_text ts

unfoldable pub nodes_text : List Node → List ℕ
nodes_text [] = []
nodes_text (n ∷ ns) = node_text n ++ nodes_text ns

unfoldable pub text_of : List ℕ → List Node → List ℕ
text_of es ns = entries_text es ++ nodes_text ns

-- ---- the whole answer

pub record Outcome : Type 0 where
  pub answer : Writing
  pub bytes : List ℕ

-- what a call gives and leaves
abbrev pub outcome : Writing → List ℕ → Outcome
outcome answer bytes = record { answer = answer; bytes = bytes }

unfoldable pub long_enough : List ℕ → List ℕ → Bool
long_enough out text = leb (length text) (length out)

abbrev pub outcome_of : Option Refusal → List ℕ → List ℕ → Outcome
outcome_of (some r) text out = outcome (Err r) out
outcome_of none text out =
    pick (long_enough out text) (outcome (Ok (length text)) (text ++ drop (length text) out)) (outcome (Err OutputTooShort) out)

unfoldable pub writing : Table → List ℕ → Outcome
writing t out = outcome_of (table_test t) (text_of (entries_of t) (nodes_of t)) out

-- what it reports: how many bytes were written, or a refusal's number and place
abbrev pub writing_report : Table → List ℕ → Report
writing_report t out = report_of_writing (writing t out).answer
