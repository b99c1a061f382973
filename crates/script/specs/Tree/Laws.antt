-- The unrolling law: the tree of a well-formed node is its form over the trees of its operands. `Unrolled` is the same as a
-- view, with a constructor for each form, for whatever recurses over the flat table. Assumes nothing.
use Rattle.std.specs.Prelude.{Bool, true, false, List, [], ◌∷◌, ◌++◌, ◌≡◌, refl, ℕ, zero, suc, ◌+◌, ◌≤◌, ◌<◌, length, take, drop}
use Rattle.std.proofs.Math.Option.{Option, some}
use Rattle.std.proofs.Common.{sym, ap, subst, ◌∙◌, arith, zero-add, length-append, take-append-drop, length-take-le}
use Rattle.std.proofs.Math.ListN.{get_or-append}
use Rattle.std.proofs.lemmas.List.{get_or_at}
use Rattle.script.specs.Limits.{variable_limit, word_limit}
use Rattle.script.specs.Rows.{Row, Form, UnaryOp, BinaryOp, row_of, int_form, var_form, if_form, let_form, typed_form, sym_form, truth_form, unary_form, binary_form}
use Rattle.script.specs.Table.{node_at, well_formed}
use Rattle.script.specs.Table.Laws.{Formed, int_node, truth_node, var_node, unary_node, binary_node, if_node, let_node, typed_node, sym_node, FormedAt, formed-at}
use Rattle.script.specs.Tree.{Expr, int, truth, var, unary, binary, if_else, let_in, typed_block, sym_block, shape, tree_at, tree_by, trees_from, trees}
use Rattle.script.specs.declared.Node.{Node}

-- ---- the trees of a list of nodes

pub trees_from-length : (ts : List Expr) (ns : List Node) → length (trees_from ts ns) ≡ length ts + length ns
unfolding trees_from
trees_from-length ts [] = omega arith
trees_from-length ts (n ∷ ns) = rw (trees_from-length (ts ++ (tree_by (row_of n.kind) (length ts) n ts ∷ [])) ns, length-append) (omega arith)

pub trees-length : (ns : List Node) → length (trees ns) ≡ length ns
unfolding trees
trees-length ns = rw trees_from-length (omega arith)

-- the trees made first stay
trees_from-first : (ts : List Expr) (ns : List Node) (i : ℕ) → i < length ts → tree_at (trees_from ts ns) i ≡ tree_at ts i
unfolding trees_from
trees_from-first ts [] i h = refl
trees_from-first ts (n ∷ ns) i h =
    let t = tree_by (row_of n.kind) (length ts) n ts in
    trees_from-first (ts ++ (t ∷ [])) ns i (simp length-append (omega arith)) ∙ get_or-append ts (t ∷ []) (truth i false) i h

trees_from_append : (ts : List Expr) (ms ns : List Node) → trees_from ts (ms ++ ns) ≡ trees_from (trees_from ts ms) ns
unfolding trees_from
trees_from_append ts [] ns = refl
trees_from_append ts (m ∷ ms) ns = trees_from_append (ts ++ (tree_by (row_of m.kind) (length ts) m ts ∷ [])) ms ns

-- node k of those still to come is made from the trees before it
trees_from-at : (ts : List Expr) (ns : List Node) (k i : ℕ) → k < length ns → length ts + k ≡ i → tree_at (trees_from ts ns) i ≡ tree_by (row_of (node_at ns k).kind) i (node_at ns k) (trees_from ts (take k ns))
unfolding trees_from
trees_from-at ts [] k i h q = absurd (omega arith)
trees_from-at ts (n ∷ ns) zero i h q =
    let t = tree_by (row_of n.kind) (length ts) n ts in
    let l : length ts ≡ i = omega arith in
    trees_from-first (ts ++ (t ∷ [])) ns i (simp length-append (omega arith))
    ∙ get_or_at ts t [] (truth i false) i l
    ∙ ap (λ (m : ℕ). tree_by (row_of n.kind) m n ts) l
trees_from-at ts (n ∷ ns) (suc k) i h q =
    let t = tree_by (row_of n.kind) (length ts) n ts in
    trees_from-at (ts ++ (t ∷ [])) ns k i (omega arith) (simp length-append (omega arith))

-- the trees of the first k nodes are the first k trees
pub trees-take : (ns : List Node) (k i : ℕ) → k ≤ length ns → i < k → tree_at (trees (take k ns)) i ≡ tree_at (trees ns) i
unfolding trees
trees-take ns k i h l =
    let m : length (trees_from [] (take k ns)) ≡ k = trees_from-length [] (take k ns) ∙ zero-add (length (take k ns)) ∙ length-take-le k ns h in
    sym (trees_from-first (trees_from [] (take k ns)) (drop k ns) i (omega arith))
    ∙ ap (λ (ts : List Expr). tree_at ts i) (sym (trees_from_append [] (take k ns) (drop k ns)) ∙ ap (trees_from []) (take-append-drop k ns))

-- ---- the unrolling law

-- a form looks only at the trees of its operands
same_shape : (i : ℕ) (n : Node) (f : Form) (ts us : List Expr) → Formed i n f → ((k : ℕ) → k < i → tree_at ts k ≡ tree_at us k)
    → shape f i n (tree_at ts n.a) (tree_at ts n.b) (tree_at ts n.c) ≡ shape f i n (tree_at us n.a) (tree_at us n.b) (tree_at us n.c)
unfolding shape
same_shape i n f ts us (int_node a b c) h = refl
same_shape i n f ts us (truth_node a b c) h = refl
same_shape i n f ts us (var_node a b c) h = refl
same_shape i n f ts us (unary_node a b c) h = rw (h n.a a) refl
same_shape i n f ts us (binary_node a b c) h = rw (h n.a a, h n.b b) refl
same_shape i n f ts us (if_node a b c) h = rw (h n.a a, h n.b b, h n.c c) refl
same_shape i n f ts us (let_node a b c) h = rw (h n.a a, h n.b b) refl
same_shape i n f ts us (typed_node a b c) h = rw (h n.a a) refl
same_shape i n f ts us (sym_node a b c) h = rw (h n.a a) refl

-- the tree of node i by its row
pub tree_shape : (ns : List Node) (i : ℕ) → i < length ns → (f : FormedAt i (node_at ns i))
    → tree_at (trees ns) i ≡ shape f.row.form i (node_at ns i) (tree_at (trees ns) (node_at ns i).a) (tree_at (trees ns) (node_at ns i).b) (tree_at (trees ns) (node_at ns i).c)
unfolding trees tree_by
tree_shape ns i h f =
    trees_from-at [] ns i i h (zero-add i)
    ∙ ap (λ (o : Option Row). tree_by o i (node_at ns i) (trees_from [] (take i ns))) f.is_row
    ∙ same_shape i (node_at ns i) f.row.form (trees (take i ns)) (trees ns) f.formed (λ k l. trees-take ns i k (omega arith) l)

pub unrolling : (ns : List Node) (i : ℕ) → i < length ns → well_formed ns i ≡ true
    → tree_at (trees ns) i ≡ tree_by (row_of (node_at ns i).kind) i (node_at ns i) (trees ns)
unfolding tree_by
unrolling ns i h w =
    let f = formed-at ns i w in
    tree_shape ns i h f ∙ ap (λ (o : Option Row). tree_by o i (node_at ns i) (trees ns)) (sym f.is_row)

-- ---- the view

-- the tree of node i: its row's form, the ranges of its operands, and the trees of the operands that are nodes
pub data Unrolled (ns : List Node) (i : ℕ) : Expr → Type 0 where
  is-int : {r : Row} → row_of (node_at ns i).kind ≡ some r → r.form ≡ int_form → (node_at ns i).a ≤ word_limit → Unrolled ns i (int i (node_at ns i).a)
  is-truth : {r : Row} {b : Bool} → row_of (node_at ns i).kind ≡ some r → r.form ≡ truth_form b → Unrolled ns i (truth i b)
  is-var : {r : Row} → row_of (node_at ns i).kind ≡ some r → r.form ≡ var_form → (node_at ns i).a ≤ variable_limit → Unrolled ns i (var i (node_at ns i).a)
  is-unary : {r : Row} {o : UnaryOp} → row_of (node_at ns i).kind ≡ some r → r.form ≡ unary_form o → (node_at ns i).a < i
      → Unrolled ns i (unary i o (tree_at (trees ns) (node_at ns i).a))
  is-binary : {r : Row} {o : BinaryOp} → row_of (node_at ns i).kind ≡ some r → r.form ≡ binary_form o → (node_at ns i).a < i → (node_at ns i).b < i
      → Unrolled ns i (binary i o (tree_at (trees ns) (node_at ns i).a) (tree_at (trees ns) (node_at ns i).b))
  is_if : {r : Row} → row_of (node_at ns i).kind ≡ some r → r.form ≡ if_form → (node_at ns i).a < i → (node_at ns i).b < i → (node_at ns i).c < i
      → Unrolled ns i (if_else i (tree_at (trees ns) (node_at ns i).a) (tree_at (trees ns) (node_at ns i).b) (tree_at (trees ns) (node_at ns i).c))
  is_let : {r : Row} → row_of (node_at ns i).kind ≡ some r → r.form ≡ let_form → (node_at ns i).a < i → (node_at ns i).b < i
      → Unrolled ns i (let_in i (tree_at (trees ns) (node_at ns i).a) (tree_at (trees ns) (node_at ns i).b))
  is-typed : {r : Row} → row_of (node_at ns i).kind ≡ some r → r.form ≡ typed_form → (node_at ns i).a < i
      → Unrolled ns i (typed_block i (tree_at (trees ns) (node_at ns i).a))
  is-sym : {r : Row} → row_of (node_at ns i).kind ≡ some r → r.form ≡ sym_form → (node_at ns i).a < i
      → Unrolled ns i (sym_block i (tree_at (trees ns) (node_at ns i).a))

view_of : (ns : List Node) (i : ℕ) (r : Row) (f : Form) → row_of (node_at ns i).kind ≡ some r → r.form ≡ f → Formed i (node_at ns i) f
    → Unrolled ns i (shape f i (node_at ns i) (tree_at (trees ns) (node_at ns i).a) (tree_at (trees ns) (node_at ns i).b) (tree_at (trees ns) (node_at ns i).c))
unfolding shape
view_of ns i r f e q (int_node a b c) = is-int e q a
view_of ns i r f e q (truth_node a b c) = is-truth e q
view_of ns i r f e q (var_node a b c) = is-var e q a
view_of ns i r f e q (unary_node a b c) = is-unary e q a
view_of ns i r f e q (binary_node a b c) = is-binary e q a b
view_of ns i r f e q (if_node a b c) = is_if e q a b c
view_of ns i r f e q (let_node a b c) = is_let e q a b
view_of ns i r f e q (typed_node a b c) = is-typed e q a
view_of ns i r f e q (sym_node a b c) = is-sym e q a

pub unroll : (ns : List Node) (i : ℕ) → i < length ns → well_formed ns i ≡ true → Unrolled ns i (tree_at (trees ns) i)
unroll ns i h w =
    let f = formed-at ns i w in
    subst (Unrolled ns i) (sym (tree_shape ns i h f)) (view_of ns i f.row f.row.form f.is_row refl f.formed)
