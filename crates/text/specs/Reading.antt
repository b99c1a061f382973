-- The whole answer of reading a text into a lent table, and what every lent place then holds (docs/SCRIPTS.md, 'Reading and writing'): 32 comes before all else; a
-- refused reading leaves `false` in every place of the table and 0 in every entry, and after success the unused places hold the same.
-- Assumes nothing.
use Rattle.std.specs.Prelude.{◌&&◌, List, [], ◌++◌, ℕ, ◌*◌, ◌-◌, leb, length, drop, replicate, Err, Ok}
use Rattle.script.specs.Answers.{Report, report_of_reading}
use Rattle.script.specs.Flat.{node_width, flat, nodes_in}
use Rattle.script.specs.Limits.{node_limit, entry_limit, size_of}
use Rattle.script.specs.Table.{Table, unused}
use Rattle.script.specs.Tests.{pick}
use Rattle.script.specs.declared.Node.{Node}
use Rattle.script.specs.declared.Refusal.TheVariants.{TableTooSmall}
use Rattle.text.specs.Grammar.{Meaning, means, refused, meaning_of}
use Rattle.script.specs.Answers.Named.{Reading}

pub record Outcome : Type 0 where
  pub answer : Reading
  pub lent_nodes : List Node
  pub lent_entries : List ℕ

abbrev pub answer_of : Meaning → Reading
answer_of (means es ns) = Ok (size_of (length ns) (length es))
answer_of (refused r) = Err r

abbrev pub nodes_read : Meaning → List Node
nodes_read (means es ns) = ns
nodes_read (refused r) = []

abbrev pub entries_read : Meaning → List ℕ
entries_read (means es ns) = es
entries_read (refused r) = []

module _ {A : Type 0} where
  -- the places of a lent list, the first ones used
  abbrev pub filled : List A → ℕ → A → List A
  filled xs n x = xs ++ replicate (n - length xs) x

-- where n nodes and m entries are lent
abbrev pub outcome_of : Meaning → ℕ → ℕ → Outcome
outcome_of t n m = record { answer = answer_of t; lent_nodes = filled (nodes_read t) n unused; lent_entries = filled (entries_read t) m 0 }

-- the table of a text that means es and ns, where n nodes and m entries are lent
abbrev pub table_read : List ℕ → List Node → ℕ → ℕ → Table
table_read es ns n m = record { lent_nodes = filled ns n unused; node_count = length ns; lent_entries = filled es m 0; entry_count = length es }

-- 32, then what the text means
abbrev pub tried : List ℕ → ℕ → ℕ → Meaning
tried text n m = pick (leb node_limit n && leb entry_limit m) (meaning_of text) (refused TableTooSmall)

unfoldable pub reading : List ℕ → ℕ → ℕ → Outcome
reading text n m = outcome_of (tried text n m) n m

-- what it reports: how many nodes and entries were read, or a refusal's number and place
abbrev pub reading_report : List ℕ → ℕ → ℕ → Report
reading_report text n m = report_of_reading (reading text n m).answer

-- ---- the table in flat form

-- the answer, and what every lent number then holds; numbers after the last whole node stay as they were
pub record Left : Type 0 where
  pub answer : Reading
  pub table : List ℕ
  pub entries : List ℕ

abbrev pub leaves : Reading → List ℕ → List ℕ → Left
leaves r xs es = record { answer = r; table = xs; entries = es }

abbrev pub left_by : Outcome → List ℕ → Left
left_by o rest = leaves o.answer (flat o.lent_nodes ++ rest) o.lent_entries

unfoldable pub reading_in : List ℕ → List ℕ → List ℕ → Left
reading_in text xs es = left_by (reading text (length (nodes_in xs)) (length es)) (drop (node_width * length (nodes_in xs)) xs)
