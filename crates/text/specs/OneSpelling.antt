-- Every script has one text (docs/SCRIPTS.md): a text that is read is the text of what it means, so that no two texts mean the same, and
-- writing what a call of the reader read gives the same bytes back. The table that is read passes every test. Assumes nothing.
use Rattle.std.specs.Prelude.{◌≡◌, ℕ, ◌≤◌, length}
use mathlib.Core.List.{List}
use Rattle.script.specs.Limits.{node_limit, entry_limit, size_of}
use Rattle.script.specs.Table.{Table}
use Rattle.script.specs.declared.Node.{Node}
use Rattle.script.specs.declared.Script.{Script}
use Rattle.text.specs.Grammar.{means, meaning_of}
use Rattle.text.specs.Reading as Reads
use Rattle.text.specs.Writing as Writes
pub mod Fields
pub mod Lines
pub mod Numbers
pub mod Text

-- ---- whole calls

-- what a reading that gave the counts s tells
pub record ReadAs (text : List ℕ) (n m : ℕ) (s : Script) : Type 0 where
  pub entries : List ℕ
  pub nodes : List Node
  pub lent_nodes : node_limit ≤ n
  pub lent_entries : entry_limit ≤ m
  pub meaning : meaning_of text ≡ means entries nodes
  pub counts : s ≡ size_of (length nodes) (length entries)
  pub outcome : Reads.reading text n m ≡ Reads.outcome_of (means entries nodes) n m

-- the table that a reading filled, with the counts that it gave
abbrev pub table_after : Reads.Outcome → Script → Table
table_after o s = record { lent_nodes = o.lent_nodes; node_count = s.nodes; lent_entries = o.lent_entries; entry_count = s.entries }
