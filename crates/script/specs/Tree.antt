-- The tree of a table (docs/SCRIPTS.md, 'Tree and variables'): each node with its number, over the trees of its operands. The nodes are grouped by how many
-- operands they take, with the operator as a parameter. Assumes nothing.
use Rattle.std.specs.Prelude.{Bool, false, List, [], ◌∷◌, ◌++◌, ℕ, suc, ◌+◌, pred, length, get_or}
use Rattle.std.proofs.Math.Option.{Option, none, some}
use Rattle.script.specs.Rows.{Row, Form, UnaryOp, BinaryOp, int_form, var_form, if_form, let_form, typed_form, sym_form, truth_form, unary_form, binary_form, row_of}
use Rattle.script.specs.Table.{Table, nodes_of}
use Rattle.script.specs.declared.Node.{Node}
pub mod Laws
pub mod Numbers
pub mod Size

-- each constructor begins with the node's number
pub data Expr : Type 0 where
  int : ℕ → ℕ → Expr
  truth : ℕ → Bool → Expr
  var : ℕ → ℕ → Expr
  unary : ℕ → UnaryOp → Expr → Expr
  binary : ℕ → BinaryOp → Expr → Expr → Expr
  if_else : ℕ → Expr → Expr → Expr → Expr
  let_in : ℕ → Expr → Expr → Expr
  typed_block : ℕ → Expr → Expr
  sym_block : ℕ → Expr → Expr

-- how many nodes a tree has
unfoldable pub size : Expr → ℕ
size (int n w) = 1
size (truth n b) = 1
size (var n k) = 1
size (unary n o e) = suc (size e)
size (binary n o e f) = suc (size e + size f)
size (if_else n c e f) = suc (size c + size e + size f)
size (let_in n e f) = suc (size e + size f)
size (typed_block n e) = suc (size e)
size (sym_block n e) = suc (size e)

-- the tree of node i by its form, given its operands' trees; `int` and `var` have a number of the node itself
unfoldable pub shape : Form → ℕ → Node → Expr → Expr → Expr → Expr
shape int_form i n x y z = int i n.a
shape var_form i n x y z = var i n.a
shape if_form i n x y z = if_else i x y z
shape let_form i n x y z = let_in i x y
shape typed_form i n x y z = typed_block i x
shape sym_form i n x y z = sym_block i x
shape (truth_form b) i n x y z = truth i b
shape (unary_form o) i n x y z = unary i o x
shape (binary_form o) i n x y z = binary i o x y

-- a place that no test lets through stands for `false`
abbrev pub tree_at : List Expr → ℕ → Expr
tree_at ts i = get_or ts i (truth i false)

unfoldable pub tree_by : Option Row → ℕ → Node → List Expr → Expr
tree_by none i n ts = truth i false
tree_by (some r) i n ts = shape r.form i n (tree_at ts n.a) (tree_at ts n.b) (tree_at ts n.c)

-- the trees of all nodes, each made from those before it
unfoldable pub trees_from : List Expr → List Node → List Expr
trees_from ts [] = ts
trees_from ts (n ∷ ns) = trees_from (ts ++ (tree_by (row_of n.kind) (length ts) n ts ∷ [])) ns

unfoldable pub trees : List Node → List Expr
trees ns = trees_from [] ns

-- the tree of the last node, the root
unfoldable pub root : List Node → Expr
root ns = tree_at (trees ns) (pred (length ns))

unfoldable pub tree_of : Table → Expr
tree_of t = root (nodes_of t)
