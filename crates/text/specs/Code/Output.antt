-- What a part of the writer does to the lent bytes, and which bytes a part is: for the writer's contracts. Assumes nothing.
use Rattle.std.specs.Prelude.{Bool, List, [], ◌∷◌, ◌≡◌, ℕ, ◌+◌, length}
use Rattle.std.proofs.Math.Option.{Option, none, some}
use Rattle.std.proofs.lemmas.List.Edits.{sets}
use Rattle.script.specs.Rows.{Row, row_of}
use Rattle.script.specs.Table.{Table, nodes_of, entries_of}
use Rattle.script.specs.Tests.{pick}
use Rattle.text.specs.Bytes.{tab}
use Rattle.text.specs.Writing.{digits, text_of}
pub mod Fields
pub mod Laws
pub mod Lines

-- the bytes are stored from place `at` on, as far as they fit, and the place after them is given
pub record Put (bytes : List ℕ) (at : ℕ) (out : List ℕ) (next : ℕ) (out' : List ℕ) : Type 0 where
  pub next-is : next ≡ at + length bytes
  pub bytes_are : out' ≡ sets out at bytes

abbrev pub word_by : Option Row → List ℕ
word_by none = []
word_by (some r) = r.word

-- the word of a kind
unfoldable pub word_of : ℕ → List ℕ
word_of k = word_by (row_of k)

-- an operand after a tab, where it is wanted
abbrev pub operand_if : Bool → ℕ → List ℕ
operand_if wanted o = pick wanted (tab ∷ digits o) []

-- the text of a table
abbrev pub text_in : Table → List ℕ
text_in t = text_of (entries_of t) (nodes_of t)
