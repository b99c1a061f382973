-- The steps of a run as the code makes them: values held in lent bytes, what a step answers and leaves in the cells, and evaluation by the form of a
-- node: a leaf; the operand that comes after the first; the rule after the last. Assumes nothing.
use Rattle.std.specs.Prelude.{◌≡◌, ℕ, suc, ◌+◌, ◌*◌, ◌%◌, ◌^◌, ◌≤◌, true, false, List, length, take, Some, None, Ok, Err}
use Rattle.std.proofs.Math.ListN.{get_elem?}
use Rattle.script.specs.Code.Forms.{form_of, node_in, tree_in, bound_on}
use Rattle.script.specs.Flat.{FormedNodes}
use Rattle.script.specs.Rows.{Form, int_form, var_form, if_form, let_form, typed_form, sym_form, truth_form, unary_form, binary_form, node_operands}
use Rattle.script.specs.Tree.{size}
use Rattle.script.specs.declared.Node.{Node}
use Rattle.script.specs.declared.Value.{Value}
use Rattle.script.specs.declared.Value.TheVariants.{Word, Truth, Location}
use Rattle.rules.specs.Evaluation.{Outcome, gave, failed, after, found, unary_on, binary_on, eval}
use Rattle.rules.specs.Evaluation.Laws.{cells_of}
use Rattle.rules.specs.Running.{all_bytes, values_of, stored, lent_limit}
use Rattle.rules.specs.Running.Laws.{InRange, AllInRange}
use Rattle.operators.specs.Named.{Next}
use Rattle.operators.specs.declared.Parts.{Parts}
use Rattle.operators.specs.Named.{Step}
pub mod Operators
pub mod Values

-- ---- values in lent bytes

-- the bytes begin with these values
pub record Holds (bs : List ℕ) (vs : List Value) : Type 0 where
  pub bytes : take (5 * length vs) bs ≡ all_bytes vs
  pub ranged : AllInRange vs

-- so many used cells, with room for some more
pub record Cells (cells : List ℕ) (used more : ℕ) : Type 0 where
  pub held : Holds cells (values_of used cells)
  pub lent : 5 * lent_limit ≤ length cells
  pub room : used + more ≤ lent_limit

-- so many variables, with room for some more
pub record Variables (env : List ℕ) (depth more : ℕ) : Type 0 where
  pub held : Holds env (values_of depth env)
  pub room : 5 * (depth + more) ≤ length env

-- ---- what a step answers, and what it leaves in the cells

abbrev pub whole_of : Parts → Step
whole_of (Parts.Word w used) = Ok (Word w, used)
whole_of (Parts.Truth b used) = Ok (Truth b, used)
whole_of (Parts.Location l used) = Ok (Location l, used)
whole_of (Parts.Failed n used) = Err (n, used)

abbrev pub step_of : Outcome → Step
step_of (gave v cs) = Ok (v, length cs)
step_of (failed n cs) = Err (n, length cs)

pub record Does (o : Outcome) (r : Step) (cells left : List ℕ) : Type 0 where
  pub answer : r ≡ step_of o
  pub leaves : left ≡ stored cells (cells_of o)

-- a rule that looks at no cell and changes none
pub record Says (rule : List Value → Outcome) (used : ℕ) (r : Step) : Type 0 where
  pub answer : (cs : List Value) → length cs ≡ used → r ≡ step_of (rule cs)
  pub unchanged : (cs : List Value) → cells_of (rule cs) ≡ cs

-- ---- evaluation by the form of node n, which is m

-- a node whose operands are no nodes; a form of other nodes stands for `false` here
unfoldable pub leaf_on : Form → ℕ → Node → List Value → List Value → Outcome
leaf_on int_form n m env cs = gave (Word (m.a % 2 ^ 32)) cs
leaf_on var_form n m env cs = found (get_elem? env m.a) (failed n cs) λ v. gave v cs
leaf_on if_form n m env cs = gave (Truth false) cs
leaf_on let_form n m env cs = gave (Truth false) cs
leaf_on typed_form n m env cs = gave (Truth false) cs
leaf_on sym_form n m env cs = gave (Truth false) cs
leaf_on (truth_form b) n m env cs = gave (Truth b) cs
leaf_on (unary_form o) n m env cs = gave (Truth false) cs
leaf_on (binary_form o) n m env cs = gave (Truth false) cs

-- a node with one operand that is a node, which gave v
unfoldable pub one_on : Form → ℕ → Value → List Value → Outcome
one_on int_form n v cs = gave v cs
one_on var_form n v cs = gave v cs
one_on if_form n v cs = gave v cs
one_on let_form n v cs = gave v cs
one_on typed_form n v cs = gave v cs
one_on sym_form n v cs = gave v cs
one_on (truth_form b) n v cs = gave v cs
one_on (unary_form o) n v cs = unary_on n o v cs
one_on (binary_form o) n v cs = gave v cs

-- a node whose first operand gave v and the next one w
unfoldable pub two_on : Form → ℕ → Value → Value → List Value → Outcome
two_on int_form n v w cs = gave w cs
two_on var_form n v w cs = gave w cs
two_on if_form n v w cs = gave w cs
two_on let_form n v w cs = gave w cs
two_on typed_form n v w cs = gave w cs
two_on sym_form n v w cs = gave w cs
two_on (truth_form b) n v w cs = gave w cs
two_on (unary_form o) n v w cs = gave w cs
two_on (binary_form o) n v w cs = binary_on n o v w cs

-- the operand that comes after the first, which gave v: `b`, or the branch that is taken; a condition that is no truth is wrong
abbrev pub branch_of : Value → ℕ → ℕ → Next
branch_of (Word w) b c = None
branch_of (Truth true) b c = Some b
branch_of (Truth false) b c = Some c
branch_of (Location l) b c = None

unfoldable pub next_on : Form → Value → Node → Next
next_on int_form v m = Some m.b
next_on var_form v m = Some m.b
next_on if_form v m = branch_of v m.b m.c
next_on let_form v m = Some m.b
next_on typed_form v m = Some m.b
next_on sym_form v m = Some m.b
next_on (truth_form t) v m = Some m.b
next_on (unary_form o) v m = Some m.b
next_on (binary_form o) v m = Some m.b

-- the bytes hold these variables, and the first ones as before
pub record Bound (env : List ℕ) (depth : ℕ) (vs : List Value) (left : List ℕ) (count : ℕ) : Type 0 where
  pub counts : count ≡ length vs
  pub holds : Holds left vs
  pub kept : take (5 * depth) left ≡ take (5 * depth) env

-- ---- node n of a table

-- what is left of node n once its first operand gave v, where env is the environment of the next one
unfoldable pub rest_by : Next → List ℕ → Form → ℕ → Value → List Value → List Value → Outcome
rest_by None table f n v env cs = failed n cs
rest_by (Some k) table f n v env cs = after (eval (tree_in table k) env cs) λ w cs₁. two_on f n v w cs₁

abbrev pub rest_on : List ℕ → ℕ → Node → Value → List Value → List Value → Outcome
rest_on table n m v env cs = rest_by (next_on (form_of m.kind) v m) table (form_of m.kind) n v (bound_on m v env) cs

-- at most how many cells that adds
unfoldable pub rest_size_on : Form → ℕ → ℕ → ℕ
rest_size_on int_form b c = 1
rest_size_on var_form b c = 1
rest_size_on if_form b c = b + c
rest_size_on let_form b c = b
rest_size_on typed_form b c = 1
rest_size_on sym_form b c = 1
rest_size_on (truth_form t) b c = 1
rest_size_on (unary_form o) b c = 1
rest_size_on (binary_form o) b c = b

abbrev pub rest_size : List ℕ → Node → ℕ
rest_size table m = rest_size_on (form_of m.kind) (size (tree_in table m.b)) (size (tree_in table m.c))

-- what running node n asks of what is lent
pub record Ready (table env : List ℕ) (depth : ℕ) (cells : List ℕ) (used n : ℕ) : Type 0 where
  pub formed : FormedNodes table (suc n)
  pub environment : Variables env depth (suc n)
  pub store : Cells cells used (size (tree_in table n))

-- what going on with node n asks, once its first operand gave v
pub record Halfway (table env : List ℕ) (depth : ℕ) (cells : List ℕ) (used n : ℕ) (v : Value) : Type 0 where
  pub formed : FormedNodes table (suc n)
  pub several : 2 ≤ node_operands (node_in table n).kind
  pub environment : Variables env depth (suc n)
  pub store : Cells cells used (rest_size table (node_in table n))
  pub ranged : InRange v

-- what a node's run gives: what evaluation gives, and the variables as before
pub record Runs (o : Outcome) (depth : ℕ) (env env_left : List ℕ) (r : Step) (cells cells_left : List ℕ) : Type 0 where
  pub does : Does o r cells cells_left
  pub kept : take (5 * depth) env_left ≡ take (5 * depth) env
