-- The limits of a script, and a script by its counts (docs/SCRIPTS.md, 'Limits'). The code's names for the limits are the constants of
-- `Script`. Assumes nothing.
use Rattle.std.specs.Prelude.{Bool, true, false, ◌&&◌, ℕ, ◌+◌, leb, ltb, None, Some}
use Rattle.script.specs.declared.Script.{Script}
use Rattle.script.specs.Answers.Named.{Sized}

abbrev pub node_limit : ℕ
node_limit = 128

abbrev pub entry_limit : ℕ
entry_limit = 16

abbrev pub byte_limit : ℕ
byte_limit = 8192

abbrev pub nesting_limit : ℕ
nesting_limit = 4

abbrev pub variable_limit : ℕ
variable_limit = 143

-- the largest word
abbrev pub word_limit : ℕ
word_limit = 4294967295

-- the largest code of a type: 15 references to a truth
abbrev pub type_limit : ℕ
type_limit = 31

abbrev pub size_of : ℕ → ℕ → Script
size_of n m = record { nodes = n; entries = m }

abbrev pub pick_sized : Bool → Sized → Sized
pick_sized true s = s
pick_sized false s = None

abbrev pub counts_fit : ℕ → ℕ → Bool
counts_fit n m = leb n node_limit && leb m entry_limit

abbrev pub script_of : ℕ → ℕ → Sized
script_of n m = pick_sized (counts_fit n m) (Some (size_of n m))

abbrev pub with_node : Script → Sized
with_node s = pick_sized (ltb s.nodes node_limit) (Some (size_of (s.nodes + 1) s.entries))

abbrev pub with_entry : Script → Sized
with_entry s = pick_sized (ltb s.entries entry_limit) (Some (size_of s.nodes (s.entries + 1)))
