-- The rules by the form of node n, which is m, as the code goes by them: a leaf; the rule after one operand; what is left after the first operand; the rule
-- after the second. And what the functions for them promise. Assumes nothing.
pub mod Blocks
pub mod Memory
pub mod Nodes
pub mod Operators
pub mod Typed
pub mod Types
use Rattle.std.specs.Prelude.{true, false, List, [], ◌∷◌, ◌++◌, ◌≡◌, ℕ, suc, ◌+◌, ◌*◌, ◌≤◌, ◌<◌, length, get_or, set, Ok, Err}
use Rattle.std.proofs.Math.ListN.{get_elem?}
use Rattle.script.specs.Code.Forms.{form_of, several_by, node_in, tree_in, bound_on}
use Rattle.script.specs.Flat.{FormedNodes}
use Rattle.script.specs.Rows.{Form, int_form, var_form, if_form, let_form, typed_form, sym_form, truth_form, unary_form, binary_form, node_operands}
use Rattle.script.specs.Rows.Kinds.{kind_for}
use Rattle.script.specs.Tree.{Expr, size}
use Rattle.script.specs.Answers.Named.{Checked}
use Rattle.script.specs.declared.Node.{Node}
use Rattle.script.specs.declared.Refusal.{Refusal}
use Rattle.script.specs.declared.Refusal.TheVariants.{WrongType}
use Rattle.script.specs.Limits.{node_limit}
use Rattle.rules.specs.Checking.{known, check, exec}
use Rattle.rules.specs.Paths.{Path, Paths, ends, stops, forks, bind, start, assume}
use Rattle.rules.specs.Satisfiable.{satisfiable}
use Rattle.rules.specs.Symbolic.{Formula, negation, conjunction, Symbolic, a_word, a_truth, number, constantly, symbols}
use Rattle.rules.specs.SymbolicRules.{unary_exec, binary_exec, decide, typed_result, variable}
use Rattle.rules.specs.TypedRules.{and_then, unary_type, binary_type, if_type}
use Rattle.terms.specs.Places.{symbol_limit, variables_end}
use Rattle.terms.specs.Terms.{count_in, pushed, Distinct}
use Rattle.workspace.specs.Answers.{Step, Choice}
use Rattle.workspace.specs.Notes.{Bare}
use Rattle.workspace.specs.Numbers.{gives, leaf_gives, one_gives, two_gives, after_gives}
use Rattle.workspace.specs.Places.{space_size}
use Rattle.workspace.specs.State.{writes_in, depth_in, types_on, Means, PathIn, State, Valued, Room, Went, Yields, Unnoted}
use Rattle.workspace.specs.declared.Branch.TheVariants.{First, Second, Both}

-- ---- typed mode

-- a node whose operands are no nodes; a form of other nodes stands for `false` here
unfoldable pub leaf_type : Form → ℕ → Node → List ℕ → Checked
leaf_type int_form n m env = Ok 0
leaf_type var_form n m env = known n (get_elem? env m.a)
leaf_type if_form n m env = Ok 1
leaf_type let_form n m env = Ok 1
leaf_type typed_form n m env = Ok 1
leaf_type sym_form n m env = Ok 1
leaf_type (truth_form b) n m env = Ok 1
leaf_type (unary_form o) n m env = Ok 1
leaf_type (binary_form o) n m env = Ok 1

-- a node with one operand that is a node, of type t
unfoldable pub one_type : Form → ℕ → ℕ → Checked
one_type int_form n t = Ok t
one_type var_form n t = Ok t
one_type if_form n t = Ok t
one_type let_form n t = Ok t
one_type typed_form n t = Ok t
one_type sym_form n t = Ok t
one_type (truth_form b) n t = Ok t
one_type (unary_form o) n t = unary_type n o t
one_type (binary_form o) n t = Ok t

-- a node whose first operand has type t and the second one u
unfoldable pub two_type : Form → ℕ → ℕ → ℕ → Checked
two_type int_form n t u = Ok u
two_type var_form n t u = Ok u
two_type if_form n t u = Ok u
two_type let_form n t u = Ok u
two_type typed_form n t u = Ok u
two_type sym_form n t u = Ok u
two_type (truth_form b) n t u = Ok u
two_type (unary_form o) n t u = Ok u
two_type (binary_form o) n t u = binary_type n o t u

-- what is left of node n once its first operand has type t, where e and f are the trees of the other two
unfoldable pub rest_type : Node → ℕ → ℕ → Expr → Expr → ℕ → List ℕ → Checked
rest_type m limit n e f t env =
    several_by (form_of m.kind)
    (and_then (check limit e env) λ u. and_then (check limit f env) (if_type n t u))
    (check limit e (env ++ (t ∷ [])))
    (λ o. and_then (check limit e env) (binary_type n o t))
    (Ok t)

-- ---- symbolic mode

unfoldable pub leaf_exec : Form → ℕ → Node → List Symbolic → Path → Paths
leaf_exec int_form n m env p = ends (a_word (number m.a)) p
leaf_exec var_form n m env p = variable n p (get_elem? env m.a)
leaf_exec if_form n m env p = ends (a_truth (constantly false)) p
leaf_exec let_form n m env p = ends (a_truth (constantly false)) p
leaf_exec typed_form n m env p = ends (a_truth (constantly false)) p
leaf_exec sym_form n m env p = ends (a_truth (constantly false)) p
leaf_exec (truth_form b) n m env p = ends (a_truth (constantly b)) p
leaf_exec (unary_form o) n m env p = ends (a_truth (constantly false)) p
leaf_exec (binary_form o) n m env p = ends (a_truth (constantly false)) p

unfoldable pub one_exec : Form → ℕ → Symbolic → Path → Paths
one_exec int_form n v p = ends v p
one_exec var_form n v p = ends v p
one_exec if_form n v p = ends v p
one_exec let_form n v p = ends v p
one_exec typed_form n v p = ends v p
one_exec sym_form n v p = ends v p
one_exec (truth_form b) n v p = ends v p
one_exec (unary_form o) n v p = unary_exec n o v p
one_exec (binary_form o) n v p = ends v p

unfoldable pub two_exec : Form → ℕ → Symbolic → Symbolic → Path → Paths
two_exec int_form n v w p = ends w p
two_exec var_form n v w p = ends w p
two_exec if_form n v w p = ends w p
two_exec let_form n v w p = ends w p
two_exec typed_form n v w p = ends w p
two_exec sym_form n v w p = ends w p
two_exec (truth_form b) n v w p = ends w p
two_exec (unary_form o) n v w p = ends w p
two_exec (binary_form o) n v w p = binary_exec n o v w p

-- what is left of node n once its first operand gave v
unfoldable pub rest_exec : Node → ℕ → ℕ → Expr → Expr → Symbolic → List Symbolic → Path → Paths
rest_exec m limit n e f v env p =
    several_by (form_of m.kind)
    (decide n v p (exec limit e env) (exec limit f env))
    (exec limit e (env ++ (v ∷ [])) p)
    (λ o. bind (exec limit e env p) (binary_exec n o v))
    (ends v p)

-- how many nodes that is, the node itself with them
unfoldable pub rest_size_on : Form → ℕ → ℕ → ℕ
rest_size_on int_form b c = 1
rest_size_on var_form b c = 1
rest_size_on if_form b c = 1 + b + c
rest_size_on let_form b c = 1 + b
rest_size_on typed_form b c = 1
rest_size_on sym_form b c = 1
rest_size_on (truth_form t) b c = 1
rest_size_on (unary_form o) b c = 1
rest_size_on (binary_form o) b c = 1 + b

abbrev pub rest_size : List ℕ → ℕ → ℕ
rest_size table n =
    rest_size_on (form_of (node_in table n).kind) (size (tree_in table (node_in table n).b)) (size (tree_in table (node_in table n).c))

-- ---- what the functions for typed mode ask and promise

-- node n can be checked with so many variables
pub record Checkable (table ws : List ℕ) (depth n : ℕ) : Type 0 where
  pub formed : FormedNodes table (suc n)
  pub lent : variables_end ≤ length ws
  pub variables : depth + size (tree_in table n) ≤ symbol_limit
  pub small : size (tree_in table n) ≤ node_limit

-- what is left of it can
pub record CheckableRest (table ws : List ℕ) (depth n : ℕ) : Type 0 where
  pub formed : FormedNodes table (suc n)
  pub several : 2 ≤ node_operands (node_in table n).kind
  pub lent : variables_end ≤ length ws
  pub variables : depth + rest_size table n ≤ symbol_limit
  pub small : rest_size table n ≤ node_limit

-- only what stands behind the first variables changes, and nothing behind the environment
pub record Aside (depth : ℕ) (ws left : List ℕ) : Type 0 where
  pub same : length left ≡ length ws
  pub before : (k : ℕ) → k < 2 * depth → get_or left k 0 ≡ get_or ws k 0
  pub beyond : (k : ℕ) → variables_end ≤ k → get_or left k 0 ≡ get_or ws k 0

pub record Judged (c : Checked) (depth : ℕ) (ws : List ℕ) (r : Checked) (left : List ℕ) : Type 0 where
  pub answer : r ≡ c
  pub aside : Aside depth ws left

-- what a `let` changes, and that no other kind changes anything; and what the types are then
pub record BoundTypes (m : Node) (depth t : ℕ) (ws : List ℕ) (count : ℕ) (left : List ℕ) : Type 0 where
  pub bound : m.kind ≡ kind_for let_form → (count ≡ depth + 1) × (left ≡ set ws (2 * depth) t)
  pub other : (m.kind ≡ kind_for let_form → ⊥) → (count ≡ depth) × (left ≡ ws)
  pub least : depth ≤ count
  pub most : count ≤ depth + 1
  pub types : types_on left count ≡ bound_on m t (types_on ws depth)
  pub aside : Aside depth ws left

-- ---- what the functions for symbolic mode ask and promise

-- a rule takes at most one node's room; the count of the variables and the notes are as before
pub record Ruled (ws left : List ℕ) : Type 0 where
  pub went : Went ws left symbol_limit 1
  pub depth : depth_in left ≡ depth_in ws
  pub notes : Unnoted ws left

pub record Leaf (f : Form) (n : ℕ) (m : Node) (depth : ℕ) (ws : List ℕ) (r : Step) (left : List ℕ) : Type 0 where
  pub ruled : Ruled ws left
  pub yields : (env : List Symbolic) (p : Path) → State ws depth env p → Yields left r (leaf_exec f n m env p)
  pub exactly : gives r left ≡ leaf_gives f n m depth ws

pub record One (f : Form) (n t q : ℕ) (ws : List ℕ) (r : Step) (left : List ℕ) : Type 0 where
  pub ruled : Ruled ws left
  pub yields : (v : Symbolic) (p : Path) → Means ws t q v → PathIn ws p → Yields left r (one_exec f n v p)
  pub exactly : gives r left ≡ one_gives f n t q ws

pub record Two (f : Form) (n t q u s : ℕ) (ws : List ℕ) (r : Step) (left : List ℕ) : Type 0 where
  pub ruled : Ruled ws left
  pub yields : (v w : Symbolic) (p : Path) → Means ws t q v → Means ws u s w → PathIn ws p → Yields left r (two_exec f n v w p)
  pub exactly : gives r left ≡ two_gives f n t q u s ws

-- two values of type k make a row with this operator, of the same type; others are refused
pub data OfBoth (k op n t q u s : ℕ) (ws : List ℕ) : Step → List ℕ → Type 0 where
  both-wrong : (t ≡ k → u ≡ k → ⊥) → OfBoth k op n t q u s ws (Err (WrongType n)) ws
  both-made : {r : ℕ} {left : List ℕ} → t ≡ k → u ≡ k → r ≡ count_in ws → left ≡ pushed ws op q s → OfBoth k op n t q u s ws (Ok (k, r)) left

pub record After (n t : ℕ) (ws : List ℕ) (r : Step) (left : List ℕ) : Type 0 where
  pub ruled : Ruled ws left
  pub yields : (p : Path) → PathIn ws p → Yields left r (typed_result n p (Ok t))
  pub exactly : gives r left ≡ after_gives n t ws

-- the condition with the guard, and without it
abbrev pub with_guard : Formula → Path → Path
with_guard g p = assume (conjunction p.condition g) p

abbrev pub without_guard : Formula → Path → Path
without_guard g p = assume (conjunction p.condition (negation g)) p

-- at an `if`: the branch that is taken and the path on it, or both, where nothing is assumed yet
pub data Chosen (ws left : List ℕ) (n : ℕ) (v : Symbolic) (p : Path) : Choice → Type 0 where
  first : {q : Path} → PathIn left q → ((e f : Path → Paths) → decide n v p e f ≡ e q) → Chosen ws left n v p (Ok First)
  second : {q : Path} → PathIn left q → ((e f : Path → Paths) → decide n v p e f ≡ f q) → Chosen ws left n v p (Ok Second)
  both : {g : Formula} → left ≡ ws → v ≡ a_truth g → satisfiable (with_guard g p).condition ≡ true → satisfiable (without_guard g p).condition ≡ true
      → ((e f : Path → Paths) → decide n v p e f ≡ forks (e (with_guard g p)) (f (without_guard g p))) → Chosen ws left n v p (Ok Both)
  neither : {x : Refusal} → ((e f : Path → Paths) → decide n v p e f ≡ stops x) → Chosen ws left n v p (Err x)

pub record Chooses (n t q : ℕ) (ws : List ℕ) (r : Choice) (left : List ℕ) : Type 0 where
  pub ruled : Ruled ws left
  pub chosen : (v : Symbolic) (p : Path) → Means ws t q v → PathIn ws p → Chosen ws left n v p r

-- what the rule of two operands asks: room, their values, and different atoms
pub record Operable (ws : List ℕ) (t q u s : ℕ) : Type 0 where
  pub room : Room ws 1
  pub first : Valued ws t q
  pub second : Valued ws u s
  pub distinct : Distinct ws

-- what a decision asks: room, a value of the condition, and a path
pub record Decidable (ws : List ℕ) (t q : ℕ) : Type 0 where
  pub room : Room ws 1
  pub valued : Valued ws t q
  pub path : Path
  pub holds : PathIn ws path

-- ---- a `sym` in typed mode

-- a workspace at the start of a path: each variable is a symbol, and there are no notes
pub record Started (count : ℕ) (types ws : List ℕ) : Type 0 where
  pub lent : space_size ≤ length ws
  pub rows : count_in ws ≤ 1 + count
  pub writes : writes_in ws ≡ 0
  pub depth : depth_in ws ≡ count
  pub state : State ws count (symbols 0 types) (start count)
  pub bare : Bare count ws
