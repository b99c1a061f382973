-- The reader's state from line to line, for the contracts of its parts: the used places of the lent table and entries are the nodes and entries so far.
-- Nothing here has to be believed: the laws tie it to the grammar. Assumes nothing.
use Rattle.std.specs.Prelude.{true, List, ◌≡◌, ℕ, ◌+◌, ◌*◌, ◌≤◌, ◌<◌, ltb, eqb, length, take, drop, set, Err, Ok}
use Rattle.std.proofs.Math.Option.{Option, none, some}
use Rattle.std.proofs.lemmas.List.Edits.{sets}
use Rattle.script.specs.Flat.{numbers_of, node_width, nodes_in}
use Rattle.script.specs.Limits.{node_limit, entry_limit, size_of}
use Rattle.script.specs.Rows.{row_of}
use Rattle.script.specs.Table.{right_node, well_formed}
use Rattle.script.specs.Tests.{pick}
use Rattle.script.specs.declared.Node.{Node}
use Rattle.script.specs.declared.Refusal.{Refusal}
use Rattle.script.specs.declared.Refusal.TheVariants.{BadLine, TooManyAt, BadOperand}
use Rattle.script.specs.declared.Script.{Script}
use Rattle.text.specs.Grammar as Grammar
use Rattle.text.specs.Grammar.{Line, Meaning, go_on, stop, admit, line_of}
use Rattle.text.specs.Reading.{answer_of, nodes_read, entries_read}
use Rattle.text.specs.Code.Scan.{line_in, line_ends}
use Rattle.text.specs.Code.Named.{Step}
use Rattle.script.specs.Answers.Named.{Reading}
pub mod Laws
pub mod Taken
pub mod Walk
pub mod Whole

-- the nodes and entries that a script's counts tell among the lent numbers
abbrev pub nodes_by : Script → List ℕ → List Node
nodes_by s xs = take s.nodes (nodes_in xs)

abbrev pub entries_by : Script → List ℕ → List ℕ
entries_by s es = take s.entries es

-- ---- what the lent numbers hold

-- room for a whole script; the counts are within the limits, and the nodes so far are well formed
pub record Kept (s : Script) (xs es : List ℕ) : Type 0 where
  pub lent-nodes : node_width * node_limit ≤ length xs
  pub lent-entries : entry_limit ≤ length es
  pub nodes-most : s.nodes ≤ node_limit
  pub entries-most : s.entries ≤ entry_limit
  pub formed : (i : ℕ) → i < s.nodes → well_formed (nodes_by s xs) i ≡ true

-- the lengths are the same, and so are the numbers after the last whole node
pub record Framed (xs es xs' es' : List ℕ) : Type 0 where
  pub table-length : length xs' ≡ length xs
  pub entries-length : length es' ≡ length es
  pub rest : drop (node_width * length (nodes_in xs)) xs' ≡ drop (node_width * length (nodes_in xs)) xs

-- ---- a line

-- an entry in line i: the answer, and what the lent entries then hold if it is of type t
abbrev pub entry_step : Script → ℕ → ℕ → Step
entry_step s next i =
    pick (eqb s.nodes 0)
    (pick (ltb s.entries entry_limit) (Ok (size_of s.nodes (s.entries + 1), next)) (Err (TooManyAt i)))
    (Err (BadLine i))

abbrev pub entry_stored : Script → ℕ → List ℕ → List ℕ
entry_stored s t es = pick (eqb s.nodes 0) (pick (ltb s.entries entry_limit) (set es s.entries t) es) es

-- a node in line i: the answer, and what the lent table then holds
abbrev pub node_step : Script → Node → ℕ → ℕ → Step
node_step s n next i =
    pick (ltb s.nodes node_limit)
    (pick (right_node (row_of n.kind) s.nodes n) (Ok (size_of (s.nodes + 1) s.entries, next)) (Err (BadOperand i)))
    (Err (TooManyAt i))

abbrev pub node_stored : Script → Node → List ℕ → List ℕ
node_stored s n xs =
    pick (ltb s.nodes node_limit)
    (pick (right_node (row_of n.kind) s.nodes n) (sets xs (node_width * s.nodes) (numbers_of n)) xs)
    xs

-- the line that starts here, if it ends in LF and is of the form
abbrev pub line_here : List ℕ → Option Line
line_here cs = pick (line_ends cs) (line_of (line_in cs)) none

-- an answer with the lent numbers, as the grammar says it
abbrev pub step_of : Step → List ℕ → List ℕ → Grammar.Step
step_of (Ok (s, next)) xs es = go_on (entries_by s es) (nodes_by s xs)
step_of (Err r) xs es = stop r

-- where the text goes on, which has `most` bytes
pub data GoesTo (at next most : ℕ) (xs es : List ℕ) : Step → Type 0 where
  goes-next : {s : Script} → Kept s xs es → at < next → next ≤ most → GoesTo at next most xs es (Ok (s, next))
  refused : {r : Refusal} → GoesTo at next most xs es (Err r)

-- line i, which starts at `at`, has been read
pub record Took (text : List ℕ) (at i : ℕ) (s : Script) (xs es : List ℕ) (r : Step) (xs' es' : List ℕ) : Type 0 where
  pub step_is : step_of r xs' es' ≡ admit i (entries_by s es) (nodes_by s xs) (line_here (drop at text))
  pub goes : GoesTo at (at + length (line_in (drop at text)) + 1) (length text) xs' es' r
  pub framed : Framed xs es xs' es'

-- ---- all lines

abbrev pub used_nodes : Reading → ℕ
used_nodes (Ok s) = s.nodes
used_nodes (Err r) = 0

abbrev pub used_entries : Reading → ℕ
used_entries (Ok s) = s.entries
used_entries (Err r) = 0

-- the 3, 5 or 13 after the last line, or the script
abbrev pub ended_by : Option Refusal → Script → Reading
ended_by none s = Ok s
ended_by (some r) s = Err r

-- a text of this meaning has been read: the used places hold it
pub record Holds (m : Meaning) (xs es : List ℕ) (r : Reading) (xs' es' : List ℕ) : Type 0 where
  pub answer-is : r ≡ answer_of m
  pub nodes_are : take (used_nodes r) (nodes_in xs') ≡ nodes_read m
  pub entries_are : take (used_entries r) es' ≡ entries_read m
  pub nodes-room : used_nodes r ≤ length (nodes_in xs')
  pub entries-room : used_entries r ≤ length es'
  pub framed : Framed xs es xs' es'
