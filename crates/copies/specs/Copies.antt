-- The table of a call over records, and what the copying functions leave: a table of records in flat form, and a flat table in records. Assumes nothing.
use Rattle.std.specs.Prelude.{List, ◌++◌, ◌≡◌, ℕ, ◌*◌, ◌/◌, min, length, take, drop}
use Rattle.script.specs.Flat.{node_width, flat, nodes_in}
use Rattle.script.specs.Limits.{node_limit}
use Rattle.script.specs.Table.{Table, unused}
use Rattle.script.specs.declared.Node.{Node}
use Rattle.script.specs.declared.table.LentTable.{LentTable}
use Rattle.text.specs.Reading.{filled}
pub mod Alike
pub mod Laws

-- a slice of records is the list of nodes of the definitions; with it go the lent entries, and how many of both are used
abbrev pub table_of : List Node → ℕ → List ℕ → ℕ → Table
table_of ns nodes es entries = record { lent_nodes = ns; node_count = nodes; lent_entries = es; entry_count = entries }

abbrev pub records_by : LentTable Node → Table
records_by t = table_of t.table.now t.nodes t.entries.now t.entry_count

-- a call makes room for the numbers of as many nodes as a script can have
abbrev pub flat_size : ℕ
flat_size = node_width * node_limit

-- the numbers xs with the first n nodes in front
abbrev pub copied : List Node → ℕ → List ℕ → List ℕ
copied ns n xs = flat (take n ns) ++ drop (node_width * n) xs

-- as many nodes are copied as there are and as there is room for
abbrev pub CopiedOut : List Node → List ℕ → ℕ → List ℕ → Type 0
CopiedOut ns xs r left = (r ≡ min (length ns) (length xs / node_width)) × (left ≡ copied ns r xs)

-- n places: the nodes in xs, and `false` in those that xs has no node for
abbrev pub places : ℕ → List ℕ → List Node
places n xs = filled (take n (nodes_in xs)) n unused

-- the table ns with its first i places filled
abbrev pub placed : List ℕ → List Node → ℕ → List Node
placed xs ns i = take i (places (length ns) xs) ++ drop i ns
