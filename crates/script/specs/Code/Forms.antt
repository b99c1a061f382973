-- The form of a kind and the tree of a node, for code that goes by the flat table. Assumes nothing.
use Rattle.std.specs.Prelude.{Bool, true, false, not, ◌&&◌, List, [], ◌∷◌, ◌++◌, map, ◌≡◌, refl, ℕ, suc, ◌≤◌, ◌<◌, leb, ltb, eqb, take, replicate}
use Rattle.std.proofs.Math.Option.{Option, none, some}
use Rattle.std.proofs.Common.{sym, ◌∙◌, arith, le-leb, leb-true, leb-false, ltb-true, ltb-false, eqb-true}
use Rattle.std.proofs.Math.Path.{ap}
use Rattle.std.proofs.lemmas.Bool.{not-false, eqb-false}
use Rattle.script.specs.Code.TableTests.Laws.{same-node}
use Rattle.script.specs.Flat.{FormedNodes, nodes_in}
use Rattle.script.specs.Flat.Laws.{nodes_in-holds}
use Rattle.script.specs.Rows.{Row, Form, BinaryOp, int_form, var_form, if_form, let_form, typed_form, sym_form, truth_form, unary_form, binary_form, rows, row_of, number_up_to, count_by, operand_count, takes_by, takes_in, takes_of, nodes_only, node_operands}
use Rattle.script.specs.Rows.Kinds.{kind_count, kind_for, leaf_kinds}
use Rattle.script.specs.Rows.Laws.{form_by, row-form, form-row, count_of, row_count, row-kind, no_operands, NoneOf, unary_forms, elsewhere, other_row}
use Rattle.script.specs.Table.{node_at, right_node, well_formed}
use Rattle.script.specs.Table.Laws.{formed-at}
use Rattle.script.specs.Tests.{lowest_from}
use Rattle.script.specs.Tests.Laws.{lowest-none}
use Rattle.script.specs.Tree.{Expr, tree_at, trees}
use Rattle.script.specs.Tree.Laws.{Unrolled, unroll}
use Rattle.script.specs.declared.Node.{Node}
use Rattle.script.specs.declared.table.Takes.{Takes}
use Rattle.script.specs.declared.table.Takes.TheVariants.{Number, Nodes}

-- ---- the form of a kind

unfoldable pub form_of : ℕ → Form
form_of k = form_by (row_of k)

-- the form of a form's kind
pub form-at : (f : Form) (k : ℕ) → k ≡ kind_for f → form_of k ≡ f
unfolding form_of
form-at f k e = ap form_of e ∙ form-row f

-- no other kind has it, unless it is `false`, which a kind without a word stands for
pub no_form : (f : Form) (k : ℕ) → eqb (kind_for (truth_form false)) (kind_for f) ≡ false → (k ≡ kind_for f → ⊥) → form_of k ≡ f → ⊥
unfolding form_of
no_form f k h d e = go (row_of k) refl e
  where
    go : (o : Option Row) → row_of k ≡ o → form_by o ≡ f → ⊥
    go none q s = eqb-false _ _ h (ap kind_for s)
    go (some r) q s = d (sym (row-form k r q) ∙ ap kind_for s)

-- what the form of every other kind says, where all other forms say the same
pub other-form : {A : Type 0} (g : Form → A) (fs : List Form) (k : ℕ)
    → map (elsewhere fs (g (truth_form false)) (λ r. g r.form)) rows ≡ replicate kind_count (g (truth_form false))
    → NoneOf k fs → g (form_of k) ≡ g (truth_form false)
unfolding form_of
other-form g fs k e n = other_row (λ o. g (form_by o)) fs k e n

-- one thing for an `if`, one for a `let`, one for each operator with two operands, and one for every form that has fewer
unfoldable pub several_by : {A : Type 0} → Form → A → A → (BinaryOp → A) → A → A
several_by int_form i l b x = x
several_by var_form i l b x = x
several_by if_form i l b x = i
several_by let_form i l b x = l
several_by typed_form i l b x = x
several_by sym_form i l b x = x
several_by (truth_form t) i l b x = x
several_by (unary_form o) i l b x = x
several_by (binary_form o) i l b x = b o

-- the environment of the operand after the first, which gave v: a `let` adds v
abbrev pub bound_on : {A : Type 0} → Node → A → List A → List A
bound_on m v env = several_by (form_of m.kind) env (env ++ (v ∷ [])) (λ o. env) env

-- how many operands that are nodes a form has
abbrev pub nodes_of_form : Form → ℕ
nodes_of_form f = nodes_only (takes_by (number_up_to f)) (count_of f)

module _ (k : ℕ) {r : Row} {f : Form} (e : row_of k ≡ some r) (q : r.form ≡ f) where
  pub form-is : form_of k ≡ f
  unfolding form_of
  form-is = ap form_by e ∙ q

  pub form-operands : node_operands k ≡ nodes_of_form f
  unfolding node_operands takes_of operand_count
  form-operands =
      ap (λ (o : Option Row). nodes_only (takes_in o) (count_by o)) e
      ∙ ap (λ (c : ℕ). nodes_only (takes_by (number_up_to r.form)) c) (row_count k r e)
      ∙ ap nodes_of_form q

-- ---- how many operands of a kind are nodes

abbrev nodes_by : Option Row → ℕ
nodes_by o = nodes_only (takes_in o) (count_by o)

-- as many as its form has
pub kind-operands : (f : Form) (k : ℕ) → k ≡ kind_for f → node_operands k ≡ nodes_of_form f
unfolding node_operands takes_of operand_count
kind-operands f k e = go (row_of k) refl (ap (λ (m : ℕ). form_by (row_of m)) e ∙ form-row f)
  where
    go : (o : Option Row) → row_of k ≡ o → form_by o ≡ f → node_operands k ≡ nodes_of_form f
    go none q s = ap nodes_by q ∙ ap nodes_of_form s
    go (some r) q s = form-operands k q s

-- a leaf has none
pub leaf_kinds_lem : (k : ℕ) → k < leaf_kinds → node_operands k ≡ 0
unfolding node_operands takes_of operand_count row_of rows lowest_from
leaf_kinds_lem k h = let l = leb-false 1 (node_operands k) (lowest-none (λ k. leb 1 (node_operands k)) leaf_kinds refl k h) in omega arith

-- each other kind one at least
pub other_kinds : (k : ℕ) → leaf_kinds ≤ k → k < kind_count → 1 ≤ node_operands k
unfolding node_operands takes_of operand_count row_of rows lowest_from
other_kinds k h l =
    let e : leb leaf_kinds k && not (leb 1 (node_operands k)) ≡ false = lowest-none (λ k. leb leaf_kinds k && not (leb 1 (node_operands k))) kind_count refl k l in
    leb-true 1 (node_operands k) (not-false _ (rw (le-leb leaf_kinds k h) at e))

-- and all its operands are nodes
pub all-nodes : (k : ℕ) → leaf_kinds ≤ k → operand_count k ≡ node_operands k
unfolding node_operands takes_of operand_count row_of rows lowest_from
all-nodes k h = go (ltb k kind_count) refl
  where
    numbers : (t : Takes) → nodes_only t 0 ≡ 0
    numbers (Number m) = refl
    numbers Nodes = refl

    go : (b : Bool) → ltb k kind_count ≡ b → operand_count k ≡ node_operands k
    go true e =
        let n : leb leaf_kinds k && not (eqb (operand_count k) (node_operands k)) ≡ false = lowest-none (λ k. leb leaf_kinds k && not (eqb (operand_count k) (node_operands k))) kind_count refl k (ltb-true k kind_count e) in
        eqb-true (operand_count k) (node_operands k) (not-false _ (rw (le-leb leaf_kinds k h) at n))
    go false e = let z = no_operands k (ltb-false k kind_count e) in z ∙ sym (ap (nodes_only (takes_of k)) z ∙ numbers (takes_of k))

-- no kind but these five has just one
pub not_one : (k : ℕ) → NoneOf k (typed_form ∷ sym_form ∷ unary_forms) → eqb (node_operands k) 1 ≡ false
unfolding node_operands takes_of operand_count rows
not_one k n = other_row (λ o. eqb (nodes_by o) 1) _ k refl n

-- what a test for one operand tells of a count
pub has_one : {r : Bool} (m : ℕ) → r ≡ eqb m 1 → r ≡ true → m ≡ 1
has_one m e t = eqb-true m 1 (sym e ∙ t)

pub has_more : {r : Bool} (m : ℕ) → 1 ≤ m → r ≡ eqb m 1 → r ≡ false → 2 ≤ m
has_more m h e f = let n = eqb-false m 1 (sym e ∙ f) in omega arith

-- ---- the nodes and trees of a flat table

abbrev pub node_in : List ℕ → ℕ → Node
node_in table n = node_at (nodes_in table) n

unfoldable pub tree_in : List ℕ → ℕ → Expr
tree_in table n = tree_at (trees (nodes_in table)) n

formed-take : (xs : List ℕ) (k m i : ℕ) → i < k → i < m → well_formed (take k (nodes_in xs)) i ≡ true → well_formed (take m (nodes_in xs)) i ≡ true
unfolding well_formed
formed-take xs k m i h l e =
    ap (λ (n : Node). right_node (row_of n.kind) i n) (sym (same-node xs m i l) ∙ same-node xs k i h) ∙ e

-- fewer nodes are formed too
pub formed_less : {xs : List ℕ} {n : ℕ} (m : ℕ) → m ≤ n → FormedNodes xs n → FormedNodes xs m
formed_less {xs} {n} m h f =
    record {
      most = omega (arith, f.most, h);
      room = omega (arith, f.room, h);
      formed = λ i l. formed-take xs n m i (omega arith) l (f.formed i (omega arith));
    }

formed-here : {xs : List ℕ} {n : ℕ} → FormedNodes xs (suc n) → well_formed (nodes_in xs) n ≡ true
unfolding well_formed
formed-here {xs} {n} f =
    ap (λ (m : Node). right_node (row_of m.kind) n m) (same-node xs (suc n) n (omega arith)) ∙ f.formed n (omega arith)

-- a formed node has a word
pub formed-kind : {xs : List ℕ} {n : ℕ} → FormedNodes xs (suc n) → (node_in xs n).kind < kind_count
formed-kind {xs} {n} f =
    let k = formed-at (nodes_in xs) n (formed-here f) in
    row-kind (node_in xs n).kind k.row k.is_row

-- if it is no leaf it has an operand that is a node
pub some-operand : {xs : List ℕ} {n : ℕ} → FormedNodes xs (suc n) → leaf_kinds ≤ (node_in xs n).kind → 1 ≤ node_operands (node_in xs n).kind
some-operand {xs} {n} f h = other_kinds (node_in xs n).kind h (formed-kind f)

-- the tree of a node, where it and those before it are formed
pub viewed : {xs : List ℕ} {n : ℕ} → FormedNodes xs (suc n) → Unrolled (nodes_in xs) n (tree_in xs n)
unfolding tree_in
viewed {xs} {n} f = unroll (nodes_in xs) n (nodes_in-holds xs (suc n) f.room) (formed-here f)
