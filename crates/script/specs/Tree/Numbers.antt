-- Every node in the tree of a table has the number of one of the table's nodes. Assumes nothing.
use Rattle.std.specs.Prelude.{Bool, List, ◌≡◌, ℕ, zero, suc, ◌≤◌, ◌<◌, pred, length}
use Rattle.std.proofs.Math.Option.{none}
use Rattle.std.proofs.Common.{subst, arith}
use Rattle.script.specs.Rows.{UnaryOp, BinaryOp}
use Rattle.script.specs.Table.{Table, nodes_of, table_test}
use Rattle.script.specs.Table.Laws.{Sound, passes}
use Rattle.script.specs.Tree.{Expr, int, truth, var, unary, binary, if_else, let_in, typed_block, sym_block, tree_at, trees, root, tree_of}
use Rattle.script.specs.Tree.Laws.{Unrolled, is-int, is-truth, is-var, is-unary, is-binary, is_if, is_let, is-typed, is-sym, unroll}
use Rattle.script.specs.declared.Node.{Node}

-- all numbers in the tree are below m
pub data Numbered (m : ℕ) : Expr → Type 0 where
  num_int : {i w : ℕ} → i < m → Numbered m (int i w)
  num_truth : {i : ℕ} {b : Bool} → i < m → Numbered m (truth i b)
  num_var : {i k : ℕ} → i < m → Numbered m (var i k)
  num_unary : {i : ℕ} {o : UnaryOp} {e : Expr} → i < m → Numbered m e → Numbered m (unary i o e)
  num_binary : {i : ℕ} {o : BinaryOp} {e f : Expr} → i < m → Numbered m e → Numbered m f → Numbered m (binary i o e f)
  num_if : {i : ℕ} {c e f : Expr} → i < m → Numbered m c → Numbered m e → Numbered m f → Numbered m (if_else i c e f)
  num_let : {i : ℕ} {e f : Expr} → i < m → Numbered m e → Numbered m f → Numbered m (let_in i e f)
  num_typed : {i : ℕ} {e : Expr} → i < m → Numbered m e → Numbered m (typed_block i e)
  num_sym : {i : ℕ} {e : Expr} → i < m → Numbered m e → Numbered m (sym_block i e)

-- node i, given that its operands' trees are numbered so
numbered-by : {ns : List Node} {i m : ℕ} {e : Expr} → i < m → ((j : ℕ) → j < i → Numbered m (tree_at (trees ns) j)) → Unrolled ns i e → Numbered m e
numbered-by h f (is-int r q a) = num_int h
numbered-by h f (is-truth r q) = num_truth h
numbered-by h f (is-var r q a) = num_var h
numbered-by h f (is-unary r q a) = num_unary h (f _ a)
numbered-by h f (is-binary r q a b) = num_binary h (f _ a) (f _ b)
numbered-by h f (is_if r q a b c) = num_if h (f _ a) (f _ b) (f _ c)
numbered-by h f (is_let r q a b) = num_let h (f _ a) (f _ b)
numbered-by h f (is-typed r q a) = num_typed h (f _ a)
numbered-by h f (is-sym r q a) = num_sym h (f _ a)

module _ (ns : List Node) (s : Sound ns) where
  numbered-at : (k i : ℕ) → i < k → i < length ns → Numbered (length ns) (tree_at (trees ns) i)
  numbered-at zero i h l = absurd (omega arith)
  numbered-at (suc k) i h l = numbered-by l (λ j b. numbered-at k j (omega arith) (omega arith)) (unroll ns i l (s.formed i l))

  numbered-root : 1 ≤ length ns → Numbered (length ns) (root ns)
  unfolding root
  numbered-root h = numbered-at (length ns) (pred (length ns)) (omega arith) (omega arith)

pub numbered-tree : (t : Table) → table_test t ≡ none → Numbered t.node_count (tree_of t)
unfolding tree_of
numbered-tree t e =
    let p = passes t e in
    let l = p.nodes_length in
    let least = p.nodes_least in
    subst (λ (m : ℕ). Numbered m (root (nodes_of t))) l (numbered-root (nodes_of t) p.sound (omega arith))
