-- The size law: the tree of a table that passes its tests has as many nodes as the table. Proved by counting twice: the sizes of all trees add up
-- to one for each node and the sizes of all operands, and every node but the last is an operand once. Assumes nothing.
use Rattle.std.specs.Prelude.{true, ◌≡◌, refl, eqb, length, take}
use mathlib.Core.List.{List, [], ◌∷◌}
use Rattle.std.proofs.Math.Option.{none}
use Rattle.std.proofs.Math.Path.{sym, ap, ap₂}
use Rattle.std.proofs.Common.{◌∙◌, one-mul}
use Prim.Native.Nat.{ℕ, zero, suc, ◌+◌, ◌*◌, ◌≤◌, ◌<◌, pred}
use Rattle.std.proofs.Math.Decide.{ℕ_discrete}
use Rattle.std.proofs.Math.Nat.{zero-mul, add-mul}
use native.Mathlib.Omega.{arith}
use Rattle.std.proofs.Math.Dec.{ltb}
use Rattle.std.proofs.Math.Seq.{take-length}
use borrow.Author.Tests.{ltb-true, lt-ltb, eq-eqb, ne_eqb}
use Rattle.script.specs.Rows.{Form, int_form, var_form, if_form, let_form, typed_form, sym_form, truth_form, unary_form, binary_form}
use Rattle.script.specs.Table.{Table, nodes_of, node_at, well_formed, operands, times_in, uses, table_test}
use Rattle.script.specs.Table.Laws.{Sound, passes, formed-at, operands_of, operands_of_lem, operand-earlier, uses-suc, last-unused}
use Rattle.script.specs.Tests.{pick, all}
use Rattle.script.specs.Tests.Laws.{both_true, get_d_all}
use Rattle.script.specs.Tree.{Expr, size, shape, tree_at, trees, root, tree_of}
use Rattle.script.specs.Tree.Laws.{tree_shape}
use Rattle.script.specs.declared.Node.{Node}

-- ---- sums

sum_below : (ℕ → ℕ) → ℕ → ℕ
sum_below f zero = 0
sum_below f (suc k) = sum_below f k + f k

sum_over : (ℕ → ℕ) → List ℕ → ℕ
sum_over f [] = 0
sum_over f (o ∷ os) = f o + sum_over f os

sum_same : (f g : ℕ → ℕ) (k : ℕ) → ((i : ℕ) → i < k → f i ≡ g i) → sum_below f k ≡ sum_below g k
unfolding sum_below
sum_same f g zero h = refl
sum_same f g (suc k) h = ap₂ (λ (a b : ℕ). a + b) (sum_same f g k (λ i l. h i (omega arith))) (h k (omega arith))

sum_zero : (f : ℕ → ℕ) (k : ℕ) → ((i : ℕ) → i < k → f i ≡ 0) → sum_below f k ≡ 0
unfolding sum_below
sum_zero f zero h = refl
sum_zero f (suc k) h = rw (sum_zero f k (λ i l. h i (omega arith)), h k (omega arith)) refl

sum_add : (f g : ℕ → ℕ) (k : ℕ) → sum_below (λ i. f i + g i) k ≡ sum_below f k + sum_below g k
unfolding sum_below
sum_add f g zero = refl
sum_add f g (suc k) = let e = sum_add f g k in omega arith

module _ (s : ℕ → ℕ) where
  -- one term of the sum is picked out
  one_at : ℕ → ℕ → ℕ
  one_at o i = pick (eqb o i) 1 0 * s i

  sum_one : (o k : ℕ) → o < k → sum_below (one_at o) k ≡ s o
  unfolding sum_below one_at
  sum_one o zero h = absurd (omega arith)
  sum_one o (suc k) h = go (λ l. sum_one o k l) (ℕ_discrete o k)
    where
      other : (i : ℕ) → (o ≡ i → ⊥) → one_at o i ≡ 0
      other i n = rw (ne_eqb o i n) (zero-mul (s i))

      here : o ≡ k → one_at o k ≡ s o
      here q = rw (eq-eqb o k q) (one-mul (s k) ∙ ap s (sym q))

      go : (o < k → sum_below (one_at o) k ≡ s o) → Dec (o ≡ k) → sum_below (one_at o) k + one_at o k ≡ s o
      go ih (yes q) = let z = sum_zero (one_at o) k (λ i l. other i (λ e. omega arith)) in let w = here q in omega arith
      go ih (no n) = let a = ih (omega arith) in let b = other k n in omega arith

  -- a sum over numbers below k, by how often each stands among them
  sum_times : (k : ℕ) (os : List ℕ) → all (λ o. ltb o k) os ≡ true → sum_over s os ≡ sum_below (λ i. times_in i os * s i) k
  unfolding sum_over times_in one_at
  sum_times k [] e = sym (sum_zero (λ i. 0 * s i) k (λ i l. zero-mul (s i)))
  sum_times k (o ∷ os) e =
      let b = both_true (ltb o k) (all (λ o. ltb o k) os) e in
      let l = ltb-true o k b.0 in
      let p = sum_one o k l in
      let q = sum_times k os b.1 in
      let r = sum_add (one_at o) (λ i. times_in i os * s i) k in
      let t : sum_below (λ i. (pick (eqb o i) 1 0 + times_in i os) * s i) k ≡ sum_below (λ i. one_at o i + times_in i os * s i) k = sum_same _ _ k (λ i l. add-mul (pick (eqb o i) 1 0) (times_in i os) (s i)) in
      ap₂ (λ (a b : ℕ). a + b) (sym p) q ∙ sym r ∙ sym t

-- ---- the sizes of the trees

-- the size of node i's tree
size_at : List Node → ℕ → ℕ
size_at ns i = size (tree_at (trees ns) i)

size-shape : (s : ℕ → Expr) (f : Form) (i : ℕ) (n : Node) → size (shape f i n (s n.a) (s n.b) (s n.c)) ≡ suc (sum_over (λ k. size (s k)) (operands_of f n))
unfolding size shape sum_over
size-shape s int_form i n = refl
size-shape s var_form i n = refl
size-shape s if_form i n = omega arith
size-shape s let_form i n = omega arith
size-shape s typed_form i n = omega arith
size-shape s sym_form i n = omega arith
size-shape s (truth_form b) i n = refl
size-shape s (unary_form o) i n = omega arith
size-shape s (binary_form o) i n = omega arith

module _ (ns : List Node) (w : (j : ℕ) → j < length ns → well_formed ns j ≡ true) where
  size-at : (i : ℕ) → i < length ns → size_at ns i ≡ suc (sum_over (size_at ns) (operands (node_at ns i)))
  unfolding size_at
  size-at i h =
      let f = formed-at ns i (w i h) in
      ap size (tree_shape ns i h f)
      ∙ size-shape (tree_at (trees ns)) f.row.form i (node_at ns i)
      ∙ ap (λ (os : List ℕ). suc (sum_over (size_at ns) os)) (sym (operands_of_lem (node_at ns i) f.row f.is_row))

  -- the operands of node i are nodes
  operands-within : (i : ℕ) → i < length ns → all (λ o. ltb o (length ns)) (operands (node_at ns i)) ≡ true
  operands-within i h =
      let e = operand-earlier ns i (w i h) in
      get_d_all (λ o. ltb o (length ns)) 0 (operands (node_at ns i)) (λ k l. let b = e k l in lt-ltb _ (length ns) (omega arith))

  -- the sizes of the first m trees: one for each, and each tree as often as these nodes use it
  sizes : (m : ℕ) → m ≤ length ns → sum_below (size_at ns) m ≡ m + sum_below (λ i. uses (take m ns) i * size_at ns i) (length ns)
  unfolding sum_below uses
  sizes zero h = let z = sum_zero (λ i. 0 * size_at ns i) (length ns) (λ i l. zero-mul (size_at ns i)) in omega arith
  sizes (suc m) h =
      let os = operands (node_at ns m) in
      let a = sizes m (omega arith) in
      let b = size-at m h in
      let c = sum_times (size_at ns) (length ns) os (operands-within m h) in
      let d = sum_add (λ i. uses (take m ns) i * size_at ns i) (λ i. times_in i os * size_at ns i) (length ns) in
      let e =
      sum_same
      (λ i. uses (take (suc m) ns) i * size_at ns i)
      (λ i. uses (take m ns) i * size_at ns i + times_in i os * size_at ns i)
      (length ns)
      (λ i l. ap (λ (u : ℕ). u * size_at ns i) (uses-suc ns i m h) ∙ add-mul (uses (take m ns) i) (times_in i os) (size_at ns i)) in
      omega arith

-- all but the last cancel
size-last : (ns : List Node) → Sound ns → (m : ℕ) → length ns ≡ suc m → size_at ns m ≡ suc m
unfolding sum_below
size-last ns s m q =
    let e : sum_below (size_at ns) (length ns) ≡ length ns + sum_below (λ i. uses ns i * size_at ns i) (length ns) = rw take-length at (sizes ns s.formed (length ns) (omega arith)) in
    let e' : sum_below (size_at ns) (suc m) ≡ suc m + sum_below (λ i. uses ns i * size_at ns i) (suc m) = rw q at e in
    let a = sum_same (λ i. uses ns i * size_at ns i) (size_at ns) m (λ i l. ap (λ (u : ℕ). u * size_at ns i) (s.once i (omega arith)) ∙ one-mul (size_at ns i)) in
    let b : uses ns m * size_at ns m ≡ 0 = ap (λ (u : ℕ). u * size_at ns m) (last-unused ns s.formed m (omega arith)) ∙ zero-mul (size_at ns m) in
    omega arith

-- the tree of sound nodes has as many nodes as there are
pub size-root : (ns : List Node) → Sound ns → 1 ≤ length ns → size (root ns) ≡ length ns
unfolding root size_at
size-root ns s h =
    let q : length ns ≡ suc (pred (length ns)) = omega arith in
    size-last ns s (pred (length ns)) q ∙ sym q

pub size-tree : (t : Table) → table_test t ≡ none → size (tree_of t) ≡ t.node_count
unfolding tree_of
size-tree t e =
    let p = passes t e in
    let l = p.nodes_length in
    let m = p.nodes_least in
    size-root (nodes_of t) p.sound (omega arith) ∙ l
