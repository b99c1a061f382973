-- Typed rules and symbolic rules over trees, each handing over to the other at a block, and the checker's whole answer for a table (docs/CHECKS.md). The
-- path limit is a parameter: certification has 64. Assumes nothing.
use Rattle.std.specs.Prelude.{List, [], ◌∷◌, ◌++◌, map, ◌≡◌, ℕ, length, Err, Ok}
use Rattle.std.proofs.Math.Option.{Option, none, some}
use Rattle.std.proofs.Math.ListN.{get_elem?}
use Rattle.script.specs.Answers.{Report, report_of_check}
use Rattle.script.specs.Flat.{table_in}
use Rattle.script.specs.Table.{Table, entries_of, table_test}
use Rattle.script.specs.Tree.{Expr, int, truth, var, unary, binary, if_else, let_in, typed_block, sym_block, tree_of}
use Rattle.script.specs.declared.Refusal.{Refusal}
use Rattle.script.specs.declared.Refusal.TheVariants.{UnknownVariable}
use Rattle.rules.specs.Paths.{Path, Paths, ends, start, bind, leaves}
use Rattle.rules.specs.Symbolic.{Symbolic, a_word, a_truth, number, constantly, type_of, symbols}
use Rattle.rules.specs.SymbolicRules.{unary_exec, binary_exec, decide, typed_result, variable, verdict}
use Rattle.rules.specs.TypedRules.{and_then, unary_type, binary_type, if_type}
use Rattle.script.specs.Answers.Named.{Checked}
pub mod Bounds
pub mod Laws
pub mod Mentions

abbrev pub path_limit : ℕ
path_limit = 64

abbrev pub known : ℕ → Option ℕ → Checked
known n none = Err (UnknownVariable n)
known n (some t) = Ok t

unfoldable mutual
  -- the type of a tree, given the types of the variables
  pub check : ℕ → Expr → List ℕ → Checked
  check limit (int n w) env = Ok 0
  check limit (truth n b) env = Ok 1
  check limit (var n k) env = known n (get_elem? env k)
  check limit (unary n o e) env = and_then (check limit e env) (unary_type n o)
  check limit (binary n o e f) env = and_then (check limit e env) λ t. and_then (check limit f env) (binary_type n o t)
  check limit (if_else n c e f) env =
      and_then (check limit c env) λ t. and_then (check limit e env) λ u. and_then (check limit f env) (if_type n t u)
  check limit (let_in n e f) env = and_then (check limit e env) λ t. check limit f (env ++ (t ∷ []))
  check limit (typed_block n e) env = check limit e env
  check limit (sym_block n e) env = verdict n limit (leaves (exec limit e (symbols 0 env) (start (length env))))

  -- the paths of a tree, given the variables' values and the path so far
  pub exec : ℕ → Expr → List Symbolic → Path → Paths
  exec limit (int n w) env p = ends (a_word (number w)) p
  exec limit (truth n b) env p = ends (a_truth (constantly b)) p
  exec limit (var n k) env p = variable n p (get_elem? env k)
  exec limit (unary n o e) env p = bind (exec limit e env p) (unary_exec n o)
  exec limit (binary n o e f) env p = bind (exec limit e env p) λ v p₁. bind (exec limit f env p₁) (binary_exec n o v)
  exec limit (if_else n c e f) env p = bind (exec limit c env p) λ v p₁. decide n v p₁ (exec limit e env) (exec limit f env)
  exec limit (let_in n e f) env p = bind (exec limit e env p) λ v p₁. exec limit f (env ++ (v ∷ [])) p₁
  exec limit (typed_block n e) env p = typed_result n p (check limit e (map type_of env))
  exec limit (sym_block n e) env p = exec limit e env p

-- the rules' answer, where no test turns the table down
abbrev pub answered : Option Refusal → Checked → Checked
answered none c = c
answered (some r) c = Err r

-- the checker's whole answer
unfoldable pub check_table : ℕ → Table → Checked
check_table limit t = answered (table_test t) (check limit (tree_of t) (entries_of t))

-- what it reports: a type's code, or a refusal's number and place
abbrev pub check_report : ℕ → Table → Report
check_report limit t = report_of_check (check_table limit t)

-- what a call of the checker promises of its answer, where the table is lent in flat form
abbrev pub CheckedBy : ℕ → List ℕ → ℕ → List ℕ → ℕ → Checked → Type 0
CheckedBy limit table nodes entries entry_count r = r ≡ check_table limit (table_in table nodes entries entry_count)
