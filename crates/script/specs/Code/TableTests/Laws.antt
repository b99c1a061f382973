-- What the code's tests tell of the tests of a table: a loop's answers, a well-formed node by its three operands, and tests in a row.
-- Assumes nothing.
use Rattle.std.specs.Prelude.{Bool, true, false, ◌&&◌, List, [], ◌∷◌, ℕ, zero, suc, ◌≤◌, ◌<◌, pred, length, take, drop, Err, Ok}
use Rattle.std.proofs.Math.Bool.{not}
use Rattle.std.proofs.Math.Option.{Option, none, some}
use Rattle.std.proofs.Math.Path.{◌≡◌, refl, ap}
use Rattle.std.proofs.Common.{sym, ◌∙◌, arith, get_or-take, length-take-le, lt-ltb, le-ltb}
use Rattle.std.proofs.Math.Dec.{leb, ltb, eqb}
use Rattle.script.specs.Flat.{nodes_in}
use Rattle.script.specs.Flat.Laws.{nodes_in-holds}
use Rattle.script.specs.Rows.{Row, row_of, number_up_to, takes_by, takes_in, takes_of, count_by, operand_count}
use Rattle.script.specs.Rows.Kinds.{kind_count}
use Rattle.script.specs.Rows.Laws.{row-some, row-none}
use Rattle.script.specs.Table.{unused, node_at, fields, right_operands, right_node, well_formed, uses, tree_test, nodes_test}
use Rattle.script.specs.Code.TableTests.{Lent, right_operand, right_field, operands_test, uses_test, depths_test}
use Rattle.script.specs.Flat.{tested_by}
use Rattle.script.specs.Tests.{pick, all, lowest, need_none}
use Rattle.script.specs.Tests.Loops.{Looked, look-found, look_none}
use Rattle.script.specs.declared.Node.{Node}
use Rattle.script.specs.declared.Refusal.{Refusal}
use Rattle.script.specs.declared.Refusal.TheVariants.{BadOperand, NotUsedOnce}
use Rattle.script.specs.declared.table.Takes.{Takes}
use Rattle.script.specs.declared.table.Takes.TheVariants.{Number, Nodes}
use Rattle.script.specs.Answers.Named.{Tested}

-- ---- the answers of a loop for the lowest place

module _ (p : ℕ → Bool) (r : ℕ → Refusal) (n i : ℕ) (l : Looked p n i) where
  pub refused-at : i < n → p i ≡ true → Err (r i) ≡ tested_by (need_none (lowest p n) r none)
  refused-at h t = rw (look-found p n i l h t) refl

  pub passed-all : n ≤ i → Ok tt ≡ tested_by (need_none (lowest p n) r none)
  passed-all h = rw (look_none p n i l h) refl

-- ---- tests in a row

-- nothing is refused where the answer is that all is passed
pub passed_none : (o : Option Refusal) → tested_by o ≡ Ok tt → o ≡ none
passed_none none e = refl
passed_none (some r) e = let z : ◌≡◌ {A = ℕ} 0 1 = cc in absurd (omega arith)

pub refused-some : (o : Option Refusal) (r : Refusal) → tested_by o ≡ Err r → o ≡ some r
refused-some none r e = let z : ◌≡◌ {A = ℕ} 0 1 = cc in absurd (omega arith)
refused-some (some x) r e = cc

module _ (o : Option ℕ) (r : ℕ → Refusal) (later : Option Refusal) (t : Tested) (e : t ≡ tested_by (need_none o r none)) where
  first-refused : (x : Refusal) → t ≡ Err x → Err x ≡ tested_by (need_none o r later)
  first-refused x f = go o (sym f ∙ e)
    where
      go : (o : Option ℕ) → Err x ≡ tested_by (need_none o r none) → Err x ≡ tested_by (need_none o r later)
      go none q = let z : ◌≡◌ {A = ℕ} 0 1 = cc in absurd (omega arith)
      go (some i) q = q

  first-passed : t ≡ Ok tt → tested_by later ≡ tested_by (need_none o r later)
  first-passed f = go o (sym f ∙ e)
    where
      go : (o : Option ℕ) → Ok tt ≡ tested_by (need_none o r none) → tested_by later ≡ tested_by (need_none o r later)
      go none q = refl
      go (some i) q = let z : ◌≡◌ {A = ℕ} 0 1 = cc in absurd (omega arith)

module _ (ns : List Node) (t : Tested) where
  pub tree-refused : t ≡ tested_by (uses_test ns) → (x : Refusal) → t ≡ Err x → Err x ≡ tested_by (tree_test ns)
  unfolding uses_test depths_test tree_test
  tree-refused e x f = first-refused (lowest (λ i. not (eqb (uses ns i) 1)) (pred (length ns))) NotUsedOnce (depths_test ns) t e x f

  pub tree-passed : t ≡ tested_by (uses_test ns) → t ≡ Ok tt → tested_by (depths_test ns) ≡ tested_by (tree_test ns)
  unfolding uses_test depths_test tree_test
  tree-passed e f = first-passed (lowest (λ i. not (eqb (uses ns i) 1)) (pred (length ns))) NotUsedOnce (depths_test ns) t e f

  pub nodes-refused : t ≡ tested_by (operands_test ns) → (x : Refusal) → t ≡ Err x → Err x ≡ tested_by (nodes_test ns)
  unfolding operands_test nodes_test
  nodes-refused e x f = first-refused (lowest (λ i. not (well_formed ns i)) (length ns)) BadOperand (tree_test ns) t e x f

  pub nodes-passed : t ≡ tested_by (operands_test ns) → t ≡ Ok tt → tested_by (tree_test ns) ≡ tested_by (nodes_test ns)
  unfolding operands_test nodes_test
  nodes-passed e f = first-passed (lowest (λ i. not (well_formed ns i)) (length ns)) BadOperand (tree_test ns) t e f

-- ---- the nodes that are lent

module _ (xs : List ℕ) (n : ℕ) where
  pub lent_length : Lent xs n → length (take n (nodes_in xs)) ≡ n
  lent_length l = length-take-le n (nodes_in xs) (nodes_in-holds xs n l.room)

  pub same-node : (i : ℕ) → i < n → node_at (nodes_in xs) i ≡ node_at (take n (nodes_in xs)) i
  same-node i h = sym (get_or-take n (nodes_in xs) i unused h)

  -- the code's test of node i
  pub formed-is : (i : ℕ) → i < n → (m : Node) (r : Bool) → m ≡ node_at (nodes_in xs) i → r ≡ right_node (row_of m.kind) i m → r ≡ well_formed (take n (nodes_in xs)) i
  unfolding well_formed
  formed-is i h m r e f = let q : m ≡ node_at (take n (nodes_in xs)) i = e ∙ same-node i h in f ∙ ap (λ (m : Node). right_node (row_of m.kind) i m) q

-- ---- one operand

module _ (kind k o i : ℕ) where
  pub right-number : (t : Takes) (c m : ℕ) → t ≡ takes_of kind → c ≡ operand_count kind → k < c → t ≡ Number m → leb o m ≡ right_field (row_of kind) k o i
  unfolding right_field takes_of operand_count
  right-number t c m e f h q = go (row_of kind) (sym q ∙ e) f
    where
      by : (w : Option ℕ) → Number m ≡ takes_by w → leb o m ≡ right_operand w o i
      by none s = let z : ◌≡◌ {A = ℕ} 0 1 = cc in absurd (omega arith)
      by (some w) s = let u : m ≡ w = cc in rw u refl

      go : (w : Option Row) → Number m ≡ takes_in w → c ≡ count_by w → leb o m ≡ right_field w k o i
      go none s u = absurd (omega arith)
      go (some r) s u = by (number_up_to r.form) s ∙ sym (rw (lt-ltb k r.count (omega arith)) refl)

  pub right-earlier : (t : Takes) (c : ℕ) → t ≡ takes_of kind → c ≡ operand_count kind → k < c → t ≡ Nodes → ltb o i ≡ right_field (row_of kind) k o i
  unfolding right_field takes_of operand_count
  right-earlier t c e f h q = go (row_of kind) (sym q ∙ e) f
    where
      by : (w : Option ℕ) → Nodes ≡ takes_by w → ltb o i ≡ right_operand w o i
      by none s = refl
      by (some w) s = let z : ◌≡◌ {A = ℕ} 0 1 = cc in absurd (omega arith)

      go : (w : Option Row) → Nodes ≡ takes_in w → c ≡ count_by w → ltb o i ≡ right_field w k o i
      go none s u = absurd (omega arith)
      go (some r) s u = by (number_up_to r.form) s ∙ sym (rw (lt-ltb k r.count (omega arith)) refl)

  pub right_zero : (c : ℕ) → kind < kind_count → c ≡ operand_count kind → c ≤ k → eqb o 0 ≡ right_field (row_of kind) k o i
  unfolding right_field operand_count
  right_zero c l f h = go (row_of kind) refl f
    where
      go : (w : Option Row) → row_of kind ≡ w → c ≡ count_by w → eqb o 0 ≡ right_field w k o i
      go none s u = absurd (row-some kind l s)
      go (some r) s u = rw (le-ltb k r.count (omega arith)) refl

  pub right_no_kind : kind_count ≤ kind → false ≡ right_field (row_of kind) k o i
  unfolding right_field
  right_no_kind l = rw (row-none kind l) refl

-- ---- the three operands of a node

and-true : (a : Bool) → a && true ≡ a
and-true true = refl
and-true false = refl

and_assoc : (a b c : Bool) → a && b && c ≡ a && (b && c)
and_assoc true b c = refl
and_assoc false b c = refl

no_more : (p : ℕ → Bool) (k : ℕ) → all p (take k []) ≡ true
no_more p zero = refl
no_more p (suc k) = refl

no_rest : (p : ℕ → Bool) (k : ℕ) → all p (drop k []) ≡ true
no_rest p zero = refl
no_rest p (suc k) = refl

-- one test for the first k of three, another for the rest
split_three : (p q : ℕ → Bool) (a b c k : ℕ) → all p (take k (a ∷ b ∷ c ∷ [])) && all q (drop k (a ∷ b ∷ c ∷ [])) ≡ pick (ltb 0 k) (p a) (q a) && (pick (ltb 1 k) (p b) (q b) && pick (ltb 2 k) (p c) (q c))
split_three p q a b c zero = simp and-true
split_three p q a b c (suc zero) = simp and-true
split_three p q a b c (suc (suc zero)) = simp (and-true, and_assoc)
split_three p q a b c (suc (suc (suc k))) =
    simp (lt-ltb 0 (suc (suc (suc k))) (omega arith), lt-ltb 1 (suc (suc (suc k))) (omega arith), lt-ltb 2 (suc (suc (suc k))) (omega arith), no_more p k, no_rest q k, and-true)

module _ (i : ℕ) (n : Node) where
  -- by the count and by what the operands are
  split-fields : (m : Option ℕ) (c : ℕ) → right_operands m i (take c (fields n)) && all (λ o. eqb o 0) (drop c (fields n)) ≡ pick (ltb 0 c) (right_operand m n.a i) (eqb n.a 0) && (pick (ltb 1 c) (right_operand m n.b i) (eqb n.b 0) && pick (ltb 2 c) (right_operand m n.c i) (eqb n.c 0))
  split-fields none c = split_three (λ o. ltb o i) (λ o. eqb o 0) n.a n.b n.c c
  split-fields (some m) c = split_three (λ o. leb o m) (λ o. eqb o 0) n.a n.b n.c c

  right-fields : (o : Option Row) → right_node o i n ≡ right_field o 0 n.a i && (right_field o 1 n.b i && right_field o 2 n.c i)
  unfolding right_field
  right-fields none = refl
  right-fields (some r) = split-fields (number_up_to r.form) r.count

  module _ (o : Option Row) where
    pub first-wrong : right_field o 0 n.a i ≡ false → false ≡ right_node o i n
    first-wrong e = rw (right-fields o, e) refl

    pub second-wrong : right_field o 0 n.a i ≡ true → right_field o 1 n.b i ≡ false → false ≡ right_node o i n
    second-wrong e f = rw (right-fields o, e, f) refl

    pub third_says : right_field o 0 n.a i ≡ true → right_field o 1 n.b i ≡ true → right_field o 2 n.c i ≡ right_node o i n
    third_says e f = rw (right-fields o, e, f) refl
