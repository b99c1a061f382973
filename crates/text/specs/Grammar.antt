-- What a text means (docs/SCRIPTS.md, docs/REFUSALS.md): a script's entries and nodes, or the refusal that it meets first, in the order 31;
-- 1, 2, 4 line by line; 3, 5, 13. Assumes nothing.
use Rattle.std.specs.Prelude.{List, [], ◌∷◌, ◌++◌, ℕ, suc, pred, leb, ltb, eqb, length}
use Rattle.std.proofs.Math.Option.{Option, none, some}
use Rattle.script.specs.Limits.{node_limit, entry_limit, byte_limit}
use Rattle.script.specs.Rows.{Row, row_of, number_up_to}
use Rattle.script.specs.Table.{node_of, right_node, tree_test}
use Rattle.script.specs.Tests.{pick, need}
use Rattle.script.specs.declared.Node.{Node}
use Rattle.script.specs.declared.Refusal.{Refusal}
use Rattle.script.specs.declared.Refusal.TheVariants.{BadLine, TooManyAt, BadOperand, NoNode, TextTooLong}
use Rattle.text.specs.Bytes.{lf, tab, entry_word}
use Rattle.text.specs.Fields.{decimal_up_to, type_of, same_bytes, kind_named}
pub mod Bounds

-- ---- lines and fields: the parts of a list between separators, at least one

abbrev pub on_first : ℕ → List (List ℕ) → List (List ℕ)
on_first c [] = (c ∷ []) ∷ []
on_first c (p ∷ ps) = (c ∷ p) ∷ ps

unfoldable pub parts : ℕ → List ℕ → List (List ℕ)
parts s [] = [] ∷ []
parts s (c ∷ cs) = pick (eqb c s) ([] ∷ parts s cs) (on_first c (parts s cs))

-- ---- a line

pub data Line : Type 0 where
  entry_line : ℕ → Line
  node_line : Node → Line

-- the largest number that an operand may be: by the word, or a node's
abbrev pub up_to : Option ℕ → ℕ
up_to none = pred node_limit
up_to (some m) = m

abbrev pub on_numbers : Option ℕ → Option (List ℕ) → Option (List ℕ)
on_numbers none os = none
on_numbers (some o) none = none
on_numbers (some o) (some os) = some (o ∷ os)

unfoldable pub numbers_up_to : ℕ → List (List ℕ) → Option (List ℕ)
numbers_up_to m [] = some []
numbers_up_to m (f ∷ fs) = on_numbers (decimal_up_to m f) (numbers_up_to m fs)

-- the node with these operands; the unused ones are 0
abbrev pub node_with : ℕ → Option (List ℕ) → Option Line
node_with k none = none
node_with k (some []) = some (node_line (node_of k 0 0 0))
node_with k (some (a ∷ [])) = some (node_line (node_of k a 0 0))
node_with k (some (a ∷ b ∷ [])) = some (node_line (node_of k a b 0))
node_with k (some (a ∷ b ∷ c ∷ [])) = some (node_line (node_of k a b c))
node_with k (some (a ∷ b ∷ c ∷ d ∷ os)) = none

abbrev pub node_by : ℕ → Option Row → List (List ℕ) → Option Line
node_by k none fs = none
node_by k (some r) fs = pick (eqb (length fs) r.count) (node_with k (numbers_up_to (up_to (number_up_to r.form)) fs)) none

abbrev pub node_from : Option ℕ → List (List ℕ) → Option Line
node_from none fs = none
node_from (some k) fs = node_by k (row_of k) fs

abbrev pub entry_with : Option ℕ → Option Line
entry_with none = none
entry_with (some t) = some (entry_line t)

abbrev pub entry_from : List (List ℕ) → Option Line
entry_from [] = none
entry_from (f ∷ []) = entry_with (type_of f)
entry_from (f ∷ g ∷ fs) = none

abbrev pub line_from : List (List ℕ) → Option Line
line_from [] = none
line_from (w ∷ fs) = pick (same_bytes entry_word w) (entry_from fs) (node_from (kind_named w) fs)

-- a line without its LF
unfoldable pub line_of : List ℕ → Option Line
line_of p = line_from (parts tab p)

-- ---- line by line

-- the entries and nodes with one line more, or the refusal of this line
pub data Step : Type 0 where
  go_on : List ℕ → List Node → Step
  stop : Refusal → Step

-- 1, 2, 4 at line i
abbrev pub admit : ℕ → List ℕ → List Node → Option Line → Step
admit i es ns none = stop (BadLine i)
admit i es [] (some (entry_line t)) = pick (ltb (length es) entry_limit) (go_on (es ++ (t ∷ [])) []) (stop (TooManyAt i))
admit i es (n ∷ ns) (some (entry_line t)) = stop (BadLine i)
admit i es ns (some (node_line n)) =
    pick (ltb (length ns) node_limit)
    (pick (right_node (row_of n.kind) (length ns) n) (go_on es (ns ++ (n ∷ []))) (stop (BadOperand i)))
    (stop (TooManyAt i))

pub data Meaning : Type 0 where
  means : List ℕ → List Node → Meaning
  refused : Refusal → Meaning

abbrev pub unless : Option Refusal → List ℕ → List Node → Meaning
unless none es ns = means es ns
unless (some r) es ns = refused r

-- 3, 5, 13 after the last line
unfoldable pub at_end : List ℕ → List Node → Meaning
at_end es ns = unless (need (ltb 0 (length ns)) NoNode (tree_test ns)) es ns

-- what follows the last LF has to be empty
abbrev pub last_part : ℕ → List ℕ → List Node → List ℕ → Meaning
last_part i es ns [] = at_end es ns
last_part i es ns (c ∷ cs) = refused (BadLine i)

abbrev pub after : Step → (List ℕ → List Node → Meaning) → Meaning
after (go_on es ns) k = k es ns
after (stop r) k = refused r

-- the lines from line i on, given as the parts between the LFs
unfoldable pub lines_from : ℕ → List ℕ → List Node → List (List ℕ) → Meaning
lines_from i es ns [] = at_end es ns
lines_from i es ns (p ∷ []) = last_part i es ns p
lines_from i es ns (p ∷ q ∷ ps) = after (admit i es ns (line_of p)) (λ es' ns'. lines_from (suc i) es' ns' (q ∷ ps))

unfoldable pub meaning_of : List ℕ → Meaning
meaning_of text = pick (leb (length text) byte_limit) (lines_from 0 [] [] (parts lf text)) (refused TextTooLong)
