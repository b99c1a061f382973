-- What a table that passes its tests is: its counts are within the limits and its nodes are sound. A well-formed node is told by the form of its
-- row, its operands are earlier nodes, and so no node is used by itself or an earlier one. Assumes nothing.
use Rattle.std.specs.Prelude.{Bool, true, false, not, List, [], ◌∷◌, ◌++◌, ◌≡◌, refl, ℕ, zero, suc, ◌+◌, ◌≤◌, ◌<◌, pred, leb, ltb, eqb, length, take, drop, get_or}
use Rattle.std.proofs.Math.Option.{Option, none, some}
use Rattle.std.proofs.Common.{ap, le_trans, arith, length-take-le, take-suc, ltb-true, leb-true, eqb-true, lt-ltb, le-leb, eq-eqb, ne_eqb}
use Rattle.std.proofs.Math.Seq.{take-length}
use Rattle.std.proofs.lemmas.Bool.{not-false}
use Rattle.script.specs.Limits.{node_limit, entry_limit, variable_limit, word_limit, type_limit}
use Rattle.script.specs.Rows.{Row, Form, UnaryOp, BinaryOp, row_of, number_up_to, int_form, var_form, if_form, let_form, typed_form, sym_form, truth_form, unary_form, binary_form}
use Rattle.script.specs.Rows.Laws.{count_of, row_count}
use Rattle.script.specs.Table.{Table, nodes_of, entries_of, unused, node_at, fields, right_operands, right_node, well_formed, nodes_among, operands, times_in, uses, too_deep, tree_test, nodes_test, table_test}
use Rattle.script.specs.Tests.{all}
use Rattle.script.specs.Tests.Laws.{both_true, true-both, true_or_false, lowest-none, none-lowest, all_get_d, get_d_all, need_none_lem, none_need, need_none_none, none_need_none}
use Rattle.script.specs.declared.Node.{Node}
use Rattle.script.specs.declared.Refusal.TheVariants.{TableTooSmall, TooMany, NoNode, BadTypeCode, BadOperand, NotUsedOnce, TooDeep}

-- the nodes pass the tests 4, 5 and 13
pub record Sound (ns : List Node) : Type 0 where
  pub formed : (i : ℕ) → i < length ns → well_formed ns i ≡ true
  pub once : (i : ℕ) → i < pred (length ns) → uses ns i ≡ 1
  pub shallow : (i : ℕ) → i < length ns → too_deep ns i ≡ false

pub record Passes (t : Table) : Type 0 where
  pub lent_nodes : node_limit ≤ length t.lent_nodes
  pub lent_entries : entry_limit ≤ length t.lent_entries
  pub nodes_most : t.node_count ≤ node_limit
  pub entries_most : t.entry_count ≤ entry_limit
  pub nodes_least : 1 ≤ t.node_count
  pub codes : (i : ℕ) → i < t.entry_count → get_or (entries_of t) i 0 ≤ type_limit
  pub nodes_length : length (nodes_of t) ≡ t.node_count
  pub entries_length : length (entries_of t) ≡ t.entry_count
  pub sound : Sound (nodes_of t)

pub nodes_test-sound : (ns : List Node) → nodes_test ns ≡ none → Sound ns
unfolding tree_test nodes_test
nodes_test-sound ns e =
    let a = need_none_none _ BadOperand _ e in
    let b = need_none_none _ NotUsedOnce _ a.1 in
    let c = need_none_none _ TooDeep _ b.1 in
    record {
      formed = λ i h. not-false (well_formed ns i) (lowest-none (λ i. not (well_formed ns i)) (length ns) a.0 i h);
      once = λ i h. eqb-true (uses ns i) 1 (not-false (eqb (uses ns i) 1) (lowest-none (λ i. not (eqb (uses ns i) 1)) (pred (length ns)) b.0 i h));
      shallow = λ i h. lowest-none (too_deep ns) (length ns) c.0 i h;
    }

pub sound-nodes_test : (ns : List Node) → Sound ns → nodes_test ns ≡ none
unfolding tree_test nodes_test
sound-nodes_test ns s =
    none_need_none _ BadOperand _ (none-lowest (λ i. not (well_formed ns i)) (length ns) (λ j h. ap not (s.formed j h)))
    (none_need_none _ NotUsedOnce _ (none-lowest (λ i. not (eqb (uses ns i) 1)) (pred (length ns)) (λ j h. ap not (eq-eqb (uses ns j) 1 (s.once j h))))
    (none_need_none _ TooDeep _ (none-lowest (too_deep ns) (length ns) s.shallow) refl))

pub passes : (t : Table) → table_test t ≡ none → Passes t
unfolding table_test
passes t e =
    let a = need_none_lem _ TableTooSmall _ e in
    let b = need_none_lem _ TooMany _ a.1 in
    let c = need_none_lem _ NoNode _ b.1 in
    let d = need_none_lem _ BadTypeCode _ c.1 in
    let lent = both_true _ _ a.0 in
    let most = both_true _ _ b.0 in
    let n = leb-true node_limit (length t.lent_nodes) lent.0 in
    let m = leb-true entry_limit (length t.lent_entries) lent.1 in
    let n' = leb-true t.node_count node_limit most.0 in
    let m' = leb-true t.entry_count entry_limit most.1 in
    let l : length (entries_of t) ≡ t.entry_count = length-take-le t.entry_count t.lent_entries (le_trans m' m) in
    record {
      lent_nodes = n;
      lent_entries = m;
      nodes_most = n';
      entries_most = m';
      nodes_least = ltb-true 0 t.node_count c.0;
      codes = λ i h. leb-true (get_or (entries_of t) i 0) type_limit (all_get_d (λ c. leb c type_limit) (entries_of t) d.0 i 0 (omega arith));
      nodes_length = length-take-le t.node_count t.lent_nodes (omega arith);
      entries_length = l;
      sound = nodes_test-sound (nodes_of t) d.1;
    }

pub passes_none : (t : Table) → Passes t → table_test t ≡ none
unfolding table_test
passes_none t p =
    none_need _ TableTooSmall _ (true-both _ _ (le-leb _ _ p.lent_nodes) (le-leb _ _ p.lent_entries))
    (none_need _ TooMany _ (true-both _ _ (le-leb _ _ p.nodes_most) (le-leb _ _ p.entries_most))
    (none_need _ NoNode _ (lt-ltb _ _ p.nodes_least)
    (none_need _ BadTypeCode _ (get_d_all (λ c. leb c type_limit) 0 (entries_of t) (λ i h. le-leb _ _ (p.codes i (omega arith))))
    (sound-nodes_test (nodes_of t) p.sound))))

-- ---- a well-formed node

-- a node with the number i, by the form of its row: the operands in use and their ranges, and that the rest are 0
pub data Formed (i : ℕ) (n : Node) : Form → Type 0 where
  int_node : n.a ≤ word_limit → n.b ≡ 0 → n.c ≡ 0 → Formed i n int_form
  truth_node : {b : Bool} → n.a ≡ 0 → n.b ≡ 0 → n.c ≡ 0 → Formed i n (truth_form b)
  var_node : n.a ≤ variable_limit → n.b ≡ 0 → n.c ≡ 0 → Formed i n var_form
  unary_node : {o : UnaryOp} → n.a < i → n.b ≡ 0 → n.c ≡ 0 → Formed i n (unary_form o)
  binary_node : {o : BinaryOp} → n.a < i → n.b < i → n.c ≡ 0 → Formed i n (binary_form o)
  if_node : n.a < i → n.b < i → n.c < i → Formed i n if_form
  let_node : n.a < i → n.b < i → n.c ≡ 0 → Formed i n let_form
  typed_node : n.a < i → n.b ≡ 0 → n.c ≡ 0 → Formed i n typed_form
  sym_node : n.a < i → n.b ≡ 0 → n.c ≡ 0 → Formed i n sym_form

pub record FormedAt (i : ℕ) (n : Node) : Type 0 where
  pub row : Row
  pub is_row : row_of n.kind ≡ some row
  pub formed : Formed i n row.form

-- each place of a list that passes one of the three tests
pub each-earlier : (i : ℕ) (os : List ℕ) → all (λ o. ltb o i) os ≡ true → (k : ℕ) → k < length os → get_or os k 0 < i
each-earlier i os e k h = ltb-true (get_or os k 0) i (all_get_d (λ o. ltb o i) os e k 0 h)

each-most : (m : ℕ) (os : List ℕ) → all (λ o. leb o m) os ≡ true → (k : ℕ) → k < length os → get_or os k 0 ≤ m
each-most m os e k h = leb-true (get_or os k 0) m (all_get_d (λ o. leb o m) os e k 0 h)

pub each-zero : (os : List ℕ) → all (λ o. eqb o 0) os ≡ true → (k : ℕ) → k < length os → get_or os k 0 ≡ 0
each-zero os e k h = eqb-true (get_or os k 0) 0 (all_get_d (λ o. eqb o 0) os e k 0 h)

module _ (i : ℕ) (n : Node) where
  rest-zero : all (λ o. eqb o 0) (n.b ∷ n.c ∷ []) ≡ true → (n.b ≡ 0) × (n.c ≡ 0)
  rest-zero v = (each-zero (n.b ∷ n.c ∷ []) v 0 (omega arith), each-zero (n.b ∷ n.c ∷ []) v 1 (omega arith))

  by_form : (f : Form) → right_operands (number_up_to f) i (take (count_of f) (fields n)) ≡ true → all (λ o. eqb o 0) (drop (count_of f) (fields n)) ≡ true → Formed i n f
  by_form int_form u v = int_node (each-most word_limit (n.a ∷ []) u 0 (omega arith)) (rest-zero v).0 (rest-zero v).1
  by_form var_form u v = var_node (each-most variable_limit (n.a ∷ []) u 0 (omega arith)) (rest-zero v).0 (rest-zero v).1
  by_form if_form u v = let p = each-earlier i (fields n) u in if_node (p 0 (omega arith)) (p 1 (omega arith)) (p 2 (omega arith))
  by_form let_form u v = let p = each-earlier i (n.a ∷ n.b ∷ []) u in let_node (p 0 (omega arith)) (p 1 (omega arith)) (each-zero (n.c ∷ []) v 0 (omega arith))
  by_form typed_form u v = typed_node (each-earlier i (n.a ∷ []) u 0 (omega arith)) (rest-zero v).0 (rest-zero v).1
  by_form sym_form u v = sym_node (each-earlier i (n.a ∷ []) u 0 (omega arith)) (rest-zero v).0 (rest-zero v).1
  by_form (truth_form b) u v = let p = each-zero (fields n) v in truth_node (p 0 (omega arith)) (p 1 (omega arith)) (p 2 (omega arith))
  by_form (unary_form o) u v = unary_node (each-earlier i (n.a ∷ []) u 0 (omega arith)) (rest-zero v).0 (rest-zero v).1
  by_form (binary_form o) u v = let p = each-earlier i (n.a ∷ n.b ∷ []) u in binary_node (p 0 (omega arith)) (p 1 (omega arith)) (each-zero (n.c ∷ []) v 0 (omega arith))

  by_row : (o : Option Row) → row_of n.kind ≡ o → right_node o i n ≡ true → FormedAt i n
  by_row none e h = absurd (true_or_false false h refl)
  by_row (some r) e h =
      let p = both_true (right_operands (number_up_to r.form) i (take r.count (fields n))) (all (λ o. eqb o 0) (drop r.count (fields n))) h in
      let c = row_count n.kind r e in
      record { row = r; is_row = e; formed = by_form r.form (rw c at p.0) (rw c at p.1) }

pub formed-at : (ns : List Node) (i : ℕ) → well_formed ns i ≡ true → FormedAt i (node_at ns i)
unfolding well_formed
formed-at ns i e = by_row i (node_at ns i) (row_of (node_at ns i).kind) refl e

-- ---- operands

-- the operands that are nodes, by the form
abbrev pub operands_of : Form → Node → List ℕ
operands_of int_form n = []
operands_of var_form n = []
operands_of if_form n = n.a ∷ n.b ∷ n.c ∷ []
operands_of let_form n = n.a ∷ n.b ∷ []
operands_of typed_form n = n.a ∷ []
operands_of sym_form n = n.a ∷ []
operands_of (truth_form b) n = []
operands_of (unary_form o) n = n.a ∷ []
operands_of (binary_form o) n = n.a ∷ n.b ∷ []

among : (f : Form) (n : Node) → nodes_among (number_up_to f) (take (count_of f) (fields n)) ≡ operands_of f n
among int_form n = refl
among var_form n = refl
among if_form n = refl
among let_form n = refl
among typed_form n = refl
among sym_form n = refl
among (truth_form b) n = refl
among (unary_form o) n = refl
among (binary_form o) n = refl

pub operands_of_lem : (n : Node) (r : Row) → row_of n.kind ≡ some r → operands n ≡ operands_of r.form n
unfolding operands
operands_of_lem n r e = rw (e, row_count n.kind r e) (among r.form n)

-- a well-formed node's operands are earlier nodes
operands_of-earlier : (i : ℕ) (n : Node) (f : Form) → Formed i n f → all (λ o. ltb o i) (operands_of f n) ≡ true
operands_of-earlier i n f (int_node a b c) = refl
operands_of-earlier i n f (truth_node a b c) = refl
operands_of-earlier i n f (var_node a b c) = refl
operands_of-earlier i n f (unary_node a b c) = rw (lt-ltb n.a i a) refl
operands_of-earlier i n f (binary_node a b c) = rw (lt-ltb n.a i a, lt-ltb n.b i b) refl
operands_of-earlier i n f (if_node a b c) = rw (lt-ltb n.a i a, lt-ltb n.b i b, lt-ltb n.c i c) refl
operands_of-earlier i n f (let_node a b c) = rw (lt-ltb n.a i a, lt-ltb n.b i b) refl
operands_of-earlier i n f (typed_node a b c) = rw (lt-ltb n.a i a) refl
operands_of-earlier i n f (sym_node a b c) = rw (lt-ltb n.a i a) refl

pub operands-earlier : (ns : List Node) (i : ℕ) → well_formed ns i ≡ true → all (λ o. ltb o i) (operands (node_at ns i)) ≡ true
operands-earlier ns i e =
    let f = formed-at ns i e in
    rw (operands_of_lem (node_at ns i) f.row f.is_row) (operands_of-earlier i (node_at ns i) f.row.form f.formed)

pub operand-earlier : (ns : List Node) (i : ℕ) → well_formed ns i ≡ true → (k : ℕ) → k < length (operands (node_at ns i)) → get_or (operands (node_at ns i)) k 0 < i
operand-earlier ns i e = each-earlier i (operands (node_at ns i)) (operands-earlier ns i e)

-- ---- uses

-- i is not among numbers below j, where j is not above i
pub times_in-zero : (i j : ℕ) (os : List ℕ) → all (λ o. ltb o j) os ≡ true → j ≤ i → times_in i os ≡ 0
unfolding times_in
times_in-zero i j [] e h = refl
times_in-zero i j (o ∷ os) e h =
    let b = both_true (ltb o j) (all (λ o. ltb o j) os) e in
    let l = ltb-true o j b.0 in
    rw (ne_eqb o i (λ q. omega arith), times_in-zero i j os b.1 h) refl

-- a node is no operand of itself or of an earlier one
pub not-before : (ns : List Node) (i j : ℕ) → well_formed ns j ≡ true → j ≤ i → times_in i (operands (node_at ns j)) ≡ 0
not-before ns i j e h = times_in-zero i j (operands (node_at ns j)) (operands-earlier ns j e) h

pub uses_append : (ms ns : List Node) (i : ℕ) → uses (ms ++ ns) i ≡ uses ms i + uses ns i
unfolding uses
uses_append [] ns i = omega arith
uses_append (m ∷ ms) ns i = rw (uses_append ms ns i) (omega arith)

-- one more node
pub uses-suc : (ns : List Node) (i j : ℕ) → j < length ns → uses (take (suc j) ns) i ≡ uses (take j ns) i + times_in i (operands (node_at ns j))
unfolding uses
uses-suc ns i j h = rw (take-suc ns j unused, uses_append) (omega arith)

-- the first k nodes do not use node i, where k is not above suc i
pub uses-before : (ns : List Node) → ((j : ℕ) → j < length ns → well_formed ns j ≡ true) → (i k : ℕ) → k ≤ length ns → k ≤ suc i → uses (take k ns) i ≡ 0
unfolding uses
uses-before ns f i zero l h = refl
uses-before ns f i (suc k) l h =
    rw (uses-suc ns i k, uses-before ns f i k (omega arith) (omega arith), not-before ns i k (f k (omega arith)) (omega arith)) refl

-- the last node is used nowhere
pub last-unused : (ns : List Node) → ((j : ℕ) → j < length ns → well_formed ns j ≡ true) → (i : ℕ) → length ns ≤ suc i → uses ns i ≡ 0
last-unused ns f i h = rw take-length at (uses-before ns f i (length ns) (omega arith) h)
