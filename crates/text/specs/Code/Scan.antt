-- What stands at a place of a text, for the contracts of the reader's parts: each is given the rest of the text from there on. Nothing here has to be
-- believed: the laws tie it to the grammar. Assumes nothing.
use Rattle.std.specs.Prelude.{Bool, true, false, ◌&&◌, ◌||◌, List, [], ◌∷◌, ℕ, ◌+◌, leb, eqb, length, None, Some}
use Rattle.std.proofs.Math.Option.{Option, none, some}
use Rattle.script.specs.Rows.{Row, row_of, number_up_to}
use Rattle.script.specs.Tests.{pick, all}
use Rattle.text.specs.Bytes.{lf, tab}
use Rattle.text.specs.Fields.{given, is_digit, value_after, decimal_up_to}
use Rattle.text.specs.Grammar.{Line, entry_line, node_line, up_to, node_by, entry_from, line_of, parts}
use Rattle.text.specs.Code.Named.{Operand}
use Rattle.text.specs.declared.Scanned.{Scanned}
use Rattle.text.specs.Code.Named.{Located}
use Rattle.text.specs.Code.Named.{Said}
pub mod Laws
pub mod Lines
pub mod Nodes

abbrev pub said_by : Option ℕ → Said
said_by none = None
said_by (some n) = Some n

-- ---- bytes

abbrev pub starts_with : ℕ → List ℕ → Bool
starts_with b [] = false
starts_with b (c ∷ cs) = eqb c b

abbrev pub ends_field : ℕ → Bool
ends_field c = eqb c tab || eqb c lf

-- up to the next tab or LF
unfoldable pub field_in : List ℕ → List ℕ
field_in [] = []
field_in (c ∷ cs) = pick (ends_field c) [] (c ∷ field_in cs)

-- the end of a field: a tab, an LF or the text's end
abbrev pub field_ends : List ℕ → Bool
field_ends [] = true
field_ends (c ∷ cs) = ends_field c

-- up to the next LF
unfoldable pub line_in : List ℕ → List ℕ
line_in [] = []
line_in (c ∷ cs) = pick (eqb c lf) [] (c ∷ line_in cs)

-- an LF follows
unfoldable pub line_ends : List ℕ → Bool
line_ends [] = false
line_ends (c ∷ cs) = pick (eqb c lf) true (line_ends cs)

-- the fields that follow the end of a field, in the same line
abbrev pub fields_after : List ℕ → List (List ℕ)
fields_after [] = []
fields_after (c ∷ cs) = pick (eqb c tab) (parts tab (line_in cs)) []

-- ---- numbers

-- the number that digits make after n
unfoldable pub number_after : ℕ → ℕ → List ℕ → Option ℕ
number_after m n cs = given (all is_digit cs && leb (value_after n cs) m) (value_after n cs)

abbrev pub largest_by : Option Row → ℕ
largest_by none = up_to none
largest_by (some r) = up_to (number_up_to r.form)

-- ---- lines

abbrev pub operand_by : Option ℕ → ℕ → Operand
operand_by none at = None
operand_by (some n) at = Some (n, at)

-- an operand, if one is wanted, and the place after it
abbrev pub operand_at : Bool → ℕ → ℕ → List ℕ → Operand
operand_at false m at cs = Some (0, at)
operand_at true m at [] = None
operand_at true m at (c ∷ cs) = pick (eqb c tab) (operand_by (decimal_up_to m (field_in cs)) (at + 1 + length (field_in cs))) None

-- a line that ends in LF, and the place after it
abbrev pub located : Bool → Option Line → ℕ → Located
located false l at = None
located true none at = None
located true (some (entry_line t)) at = Some (Scanned.Entry t, at)
located true (some (node_line n)) at = Some (Scanned.Node n, at)

-- a line, and its rest after the word `entry` or the word of a kind
unfoldable pub line_at : ℕ → List ℕ → Located
line_at at cs = located (line_ends cs) (line_of (line_in cs)) (at + length (line_in cs) + 1)

unfoldable pub entry_after : ℕ → List ℕ → Located
entry_after at cs = located (line_ends cs) (entry_from (fields_after cs)) (at + length (line_in cs) + 1)

unfoldable pub node_after : ℕ → ℕ → List ℕ → Located
node_after k at cs = located (line_ends cs) (node_by k (row_of k) (fields_after cs)) (at + length (line_in cs) + 1)
