-- Tables to try, and rows for the tests of tables: each cause, its place, and which comes first. Proved together by computation. Assumes nothing.
use Rattle.std.specs.Prelude.{◌≡◌, refl, List, [], ◌∷◌, ◌++◌, map, ℕ, suc, ◌-◌, length, replicate, None, Some}
use Rattle.std.proofs.Math.Option.{Option, none, some}
use Rattle.script.specs.Answers.{number_of, place_of}
use Rattle.script.specs.Limits.{node_limit, entry_limit}
use Rattle.script.specs.Rows.{rows, row_of}
use Rattle.script.specs.Rows.Kinds.{kind_count}
use Rattle.script.specs.Table.{Table, node_of, unused, well_formed, operands, times_in, uses, syms_around, too_deep, tree_test, nodes_test, table_test}
use Rattle.script.specs.Tests.{lowest_from}
use Rattle.script.specs.declared.Node.{Node}
use Rattle.script.specs.declared.Refusal.{Refusal}
use Rattle.script.specs.Answers.Named.{Place}

-- ---- a table with its unused places

abbrev pub lend : List ℕ → List Node → Table
lend es ns =
    record {
      lent_nodes = ns ++ replicate (node_limit - length ns) unused;
      node_count = length ns;
      lent_entries = es ++ replicate (entry_limit - length es) 0;
      entry_count = length es;
    }

abbrev pub int' : ℕ → Node
int' w = node_of 0 w 0 0

abbrev pub true' : Node
true' = node_of 1 0 0 0

abbrev pub false' : Node
false' = node_of 2 0 0 0

abbrev pub var' : ℕ → Node
var' k = node_of 3 k 0 0

abbrev pub add' : ℕ → ℕ → Node
add' x y = node_of 4 x y 0

abbrev pub eq' : ℕ → ℕ → Node
eq' x y = node_of 5 x y 0

abbrev pub and' : ℕ → ℕ → Node
and' x y = node_of 7 x y 0

abbrev pub if' : ℕ → ℕ → ℕ → Node
if' x y z = node_of 8 x y z

abbrev pub let' : ℕ → ℕ → Node
let' x y = node_of 9 x y 0

abbrev pub ref' : ℕ → Node
ref' x = node_of 10 x 0 0

abbrev pub get' : ℕ → Node
get' x = node_of 11 x 0 0

abbrev pub set' : ℕ → ℕ → Node
set' x y = node_of 12 x y 0

abbrev pub typed' : ℕ → Node
typed' x = node_of 13 x 0 0

abbrev pub sym' : ℕ → Node
sym' x = node_of 14 x 0 0

-- ---- rows

-- a table passes, or is turned down with this number at this place
pub data Tested : Type 0 where
  sound : Tested
  unsound : ℕ → Place → Tested

abbrev pub told : Option Refusal → Tested
told none = sound
told (some r) = unsound (number_of r) (place_of r)

pub record Case : Type 0 where
  pub table : Table
  pub answer : Tested

abbrev asking : Case → Tested
asking c = told (table_test c.table)

abbrev right : Case → Tested
right c = c.answer

abbrev tests : List ℕ → List Node → Tested → Case
tests es ns a = record { table = lend es ns; answer = a }

-- so many lent nodes and entries, and the counts
abbrev lent_as : ℕ → ℕ → ℕ → ℕ → Tested → Case
lent_as ns n es m a = record { table = record { lent_nodes = replicate ns unused; node_count = n; lent_entries = replicate es 0; entry_count = m }; answer = a }

unfoldable pub cases : List Case
cases =
    -- 32 before 2 before 3
    lent_as 127 129 16 0 (unsound 32 None)
    ∷ lent_as 128 0 15 0 (unsound 32 None)
    ∷ lent_as 129 129 16 0 (unsound 2 None)
    ∷ lent_as 128 0 17 17 (unsound 2 None)
    ∷ lent_as 128 0 16 16 (unsound 3 None)
    -- 33 before 4
    ∷ tests (31 ∷ 32 ∷ []) (add' 0 1 ∷ []) (unsound 33 None)
    ∷ tests (31 ∷ []) (true' ∷ []) sound
    -- 4: an operand that is no earlier node, also the node itself; a kind with no word; a number out of its range; an unused operand; before 5
    ∷ tests [] (true' ∷ true' ∷ add' 1 2 ∷ []) (unsound 4 (Some 2))
    ∷ tests [] (sym' 0 ∷ []) (unsound 4 (Some 0))
    ∷ tests [] (true' ∷ node_of kind_count 0 0 0 ∷ node_of (suc kind_count) 0 0 0 ∷ []) (unsound 4 (Some 1))
    ∷ tests [] (var' 144 ∷ []) (unsound 4 (Some 0))
    ∷ tests [] (var' 143 ∷ []) sound
    ∷ tests [] (int' 4294967296 ∷ []) (unsound 4 (Some 0))
    ∷ tests [] (int' 4294967295 ∷ []) sound
    ∷ tests [] (node_of 1 0 0 7 ∷ []) (unsound 4 (Some 0))
    -- 5: a node used twice, in one node or in two, and one that is not used
    ∷ tests [] (int' 1 ∷ add' 0 0 ∷ []) (unsound 5 (Some 0))
    ∷ tests [] (int' 1 ∷ int' 2 ∷ add' 0 1 ∷ add' 2 1 ∷ []) (unsound 5 (Some 1))
    ∷ tests [] (int' 1 ∷ int' 2 ∷ sym' 1 ∷ []) (unsound 5 (Some 0))
    -- 13: four `sym` may be nested, a fifth may not, and a typed block between them changes nothing
    ∷ tests [] (int' 1 ∷ sym' 0 ∷ sym' 1 ∷ sym' 2 ∷ sym' 3 ∷ []) sound
    ∷ tests [] (int' 1 ∷ sym' 0 ∷ sym' 1 ∷ sym' 2 ∷ sym' 3 ∷ sym' 4 ∷ []) (unsound 13 (Some 1))
    ∷ tests [] (int' 1 ∷ sym' 0 ∷ typed' 1 ∷ sym' 2 ∷ sym' 3 ∷ sym' 4 ∷ sym' 5 ∷ []) (unsound 13 (Some 1))
    ∷ []

pub cases_hold : map asking cases ≡ map right cases
unfolding cases rows row_of well_formed operands times_in uses syms_around too_deep tree_test nodes_test table_test lowest_from
cases_hold = refl
