-- The proved cases P1 to P9 (docs/CHECKS.md, 'Worked cases') as one table. Each row is a script, a question and its answer, and the table is proved whole, by
-- computation. The tables below are of the same form: `Traps` tells the rules from the traps, `NewCells` new cells from old ones, `ScratchCells` what `get`
-- finds from what it doesn't, `Refusals` has the tests of tables, values and cells. Assumes nothing.
use Rattle.std.specs.Prelude.{◌≡◌, refl, List, [], ◌∷◌, map, ℕ, replicate, take, None, Some}
use Rattle.script.specs.Answers.{Report, type_is, value_is, refused_with, report_of_run}
use Rattle.script.specs.Rows.{rows, row_of}
use Rattle.script.specs.Table.{Table, well_formed, operands, times_in, uses, syms_around, too_deep, tree_test, nodes_test, table_test}
use Rattle.script.specs.Table.Cases.{lend, int', true', var', add', if', let', ref', set', sym'}
use Rattle.script.specs.Tests.{lowest_from}
use Rattle.script.specs.Tree.{shape, tree_by, trees_from, trees, root, tree_of}
use Rattle.script.specs.declared.Node.{Node}
use Rattle.rules.specs.Checking.{check_table, check_report, path_limit, check}
use Rattle.rules.specs.Evaluation.{unary_on, binary_on, eval}
use Rattle.rules.specs.Paths.{has, consistent_after, lookup, bind, leaves}
use Rattle.rules.specs.Running.{Run, run_table, run_test, all_valid, values_of, all_bytes}
use Rattle.rules.specs.Satisfiable.{holds, atoms_of, among, different, some_choice, satisfiable}
use Rattle.rules.specs.Symbolic.{plus_each, opposite_each, same_each, same_sum, same_atom, symbol, symbols, apart, equal_references}
use Rattle.rules.specs.SymbolicRules.{unary_exec, binary_exec, branches, decide, typed_result, variable, judge}
use Rattle.rules.specs.TypedRules.{unary_type, binary_type, if_type}
use Rattle.script.specs.Answers.Named.{Place}
pub mod NewCells
pub mod Refusals
pub mod ScratchCells
pub mod Traps

-- ---- rows

-- what a row asks of its table: the checker's answer, or that of a run with these values, cells and used count
pub data Question : Type 0 where
  check? : Question
  run? : List ℕ → List ℕ → ℕ → Question

-- what is reported, and for a run what the first two cells then hold
pub data Answer : Type 0 where
  checks : Report → Answer
  runs : Report → List ℕ → Answer

pub record Case : Type 0 where
  pub table : Table
  pub question : Question
  pub answer : Answer

-- one cell or value: kind, then 32 bits below 256
abbrev pub five : ℕ → ℕ → List ℕ
five k b = k ∷ b ∷ 0 ∷ 0 ∷ 0 ∷ []

abbrev ran_to : Run → Answer
ran_to r = runs (report_of_run r.answer) (take 10 r.cells)

abbrev asked : Question → Table → Answer
asked check? t = checks (check_report path_limit t)
asked (run? values cells used) t = ran_to (run_table t values cells used)

abbrev pub asking : Case → Answer
asking c = asked c.question c.table

abbrev pub right : Case → Answer
right c = c.answer

abbrev accepts : List ℕ → List Node → ℕ → Case
accepts es ns t = record { table = lend es ns; question = check?; answer = checks (type_is t) }

abbrev refuses : List ℕ → List Node → ℕ → Place → Case
refuses es ns number place = record { table = lend es ns; question = check?; answer = checks (refused_with number place) }

-- a run with no entry values, on 192 empty cells of which none is used
abbrev ends : List Node → Report → List ℕ → Case
ends ns r cs = record { table = lend [] ns; question = run? [] (replicate 960 0) 0; answer = runs r cs }

-- ---- P1 to P9

unfoldable pub cases : List Case
cases =
    -- P1
    accepts [] (true' ∷ int' 5 ∷ true' ∷ int' 3 ∷ add' 2 3 ∷ if' 0 1 4 ∷ sym' 5 ∷ []) 0
    -- P2
    ∷ refuses [] (true' ∷ int' 5 ∷ true' ∷ int' 3 ∷ add' 2 3 ∷ if' 0 1 4 ∷ []) 6 (Some 4)
    -- P3
    ∷ refuses (1 ∷ []) (var' 0 ∷ int' 1 ∷ true' ∷ if' 0 1 2 ∷ sym' 3 ∷ []) 10 (Some 4)
    -- P4
    ∷ accepts (1 ∷ []) (var' 0 ∷ var' 0 ∷ int' 1 ∷ true' ∷ int' 1 ∷ add' 3 4 ∷ if' 1 2 5 ∷ int' 2 ∷ if' 0 6 7 ∷ sym' 8 ∷ []) 0
    -- P5
    ∷ accepts (2 ∷ []) (var' 0 ∷ true' ∷ set' 0 1 ∷ var' 0 ∷ int' 7 ∷ set' 3 4 ∷ let' 2 5 ∷ sym' 6 ∷ []) 0
    -- P6
    ∷ refuses (2 ∷ 2 ∷ []) (var' 0 ∷ true' ∷ set' 0 1 ∷ var' 1 ∷ int' 7 ∷ set' 3 4 ∷ let' 2 5 ∷ sym' 6 ∷ []) 9 (Some 7)
    -- P7
    ∷ refuses (30 ∷ []) (var' 0 ∷ ref' 0 ∷ []) 8 (Some 1)
    -- P8
    ∷ refuses [] [] 3 None
    -- P9
    ∷ ends (int' 4294967295 ∷ int' 1 ∷ add' 0 1 ∷ []) (value_is 0 0 0) (replicate 10 0)
    ∷ []

-- to unfold this is to unfold every definition that the cases compute with
computed : Unit {0}
unfolding check_table unary_on binary_on eval has consistent_after lookup bind leaves all_valid values_of run_test run_table all_bytes holds atoms_of among different some_choice satisfiable plus_each opposite_each same_each same_sum same_atom symbol symbols
    apart equal_references unary_exec binary_exec branches decide typed_result variable judge unary_type binary_type if_type rows row_of well_formed operands times_in uses syms_around too_deep tree_test nodes_test table_test lowest_from shape tree_by trees_from trees root tree_of check
computed = tt

pub cases_hold : map asking cases ≡ map right cases
unfolding cases computed
cases_hold = refl
