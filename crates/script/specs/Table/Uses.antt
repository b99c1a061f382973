-- Uses and `sym` around, for lists that hold them: one operand more, how large they get, and where the climb may begin. Assumes nothing.
use Rattle.std.specs.Prelude.{Bool, true, false, List, [], ◌∷◌, ◌++◌, ◌≡◌, refl, ℕ, zero, suc, ◌+◌, ◌*◌, ◌≤◌, ◌<◌, eqb, length, take, drop, get_or}
use Rattle.std.proofs.Math.Option.{Option, none, some}
use Rattle.std.proofs.Common.{sym, ◌∙◌, arith, take-suc, drop-cons, length-take-le, get_or-take, eqb-true}
use Rattle.std.proofs.Math.ListN.{get_or-eq_default}
use Rattle.std.proofs.lemmas.Bool.{eqb-false}
use Rattle.script.specs.Rows.{Row, sym_form, rows, row_of, number_up_to, takes_by, takes_in, takes_of, count_by, operand_count, nodes_only, node_operands}
use Rattle.script.specs.Rows.Kinds.{kind_for}
use Rattle.script.specs.Rows.Laws.{none_left, but, other_row, node-operands-most}
use Rattle.script.specs.Table.{unused, node_at, fields, well_formed, nodes_among, operands_by, operands, times_in, uses, sym_by, is_sym_node, syms_around}
use Rattle.script.specs.Table.Laws.{not-before}
use Rattle.script.specs.Tests.{pick}
use Rattle.script.specs.declared.Node.{Node}

-- ---- the operands, place by place

operands-by : (o : Option Row) (n : Node) → operands_by o n ≡ take (nodes_only (takes_in o) (count_by o)) (fields n)
operands-by none n = refl
operands-by (some r) n = go (number_up_to r.form)
  where
    go : (m : Option ℕ) → nodes_among m (take r.count (fields n)) ≡ take (nodes_only (takes_by m) r.count) (fields n)
    go none = refl
    go (some m) = refl

-- the operands that are nodes are the first so many
pub operands-take : (n : Node) → operands n ≡ take (node_operands n.kind) (fields n)
unfolding operands node_operands takes_of operand_count
operands-take n = operands-by (row_of n.kind) n

pub length-operands : (n : Node) → length (operands n) ≡ node_operands n.kind
length-operands n = rw (operands-take n) (length-take-le (node_operands n.kind) (fields n) (node-operands-most n.kind))

pub operand_at : (n : Node) (k : ℕ) → k < node_operands n.kind → get_or (fields n) k 0 ≡ get_or (operands n) k 0
operand_at n k h = rw (operands-take n, get_or-take) refl

-- a node has three operands
pub no_operand : (n : Node) (k : ℕ) → (k ≡ 0 → ⊥) → (k ≡ 1 → ⊥) → (k ≡ 2 → ⊥) → 0 ≡ get_or (fields n) k 0
no_operand n k a b c = sym (get_or-eq_default (fields n) 0 {n = k} (omega arith))

-- ---- how often among the first operands

pub pick-most : (b : Bool) → pick b 1 0 ≤ 1
pick-most true = omega arith
pick-most false = omega arith

pub times_in-none : (i : ℕ) → times_in i [] ≡ 0
unfolding times_in
times_in-none i = refl

times_in_append : (i : ℕ) (os ps : List ℕ) → times_in i (os ++ ps) ≡ times_in i os + times_in i ps
unfolding times_in
times_in_append i [] ps = omega arith
times_in_append i (o ∷ os) ps = let h = times_in_append i os ps in omega arith

-- one operand more
pub times_in-suc : (i : ℕ) (os : List ℕ) (k : ℕ) → k < length os → times_in i (take (suc k) os) ≡ times_in i (take k os) + pick (eqb (get_or os k 0) i) 1 0
unfolding times_in
times_in-suc i os k h = rw (take-suc os k 0, times_in_append) (omega arith)

pub times_in-most : (i : ℕ) (os : List ℕ) → times_in i os ≤ length os
unfolding times_in
times_in-most i [] = omega arith
times_in-most i (o ∷ os) = let h = times_in-most i os in let p = pick-most (eqb o i) in omega arith

pub times_in-operands : (i : ℕ) (n : Node) → times_in i (operands n) ≤ 3
times_in-operands i n =
    let t = times_in-most i (operands n) in
    let l = length-operands n in
    let m = node-operands-most n.kind in
    omega arith

pub uses-none : (i : ℕ) → uses [] i ≡ 0
unfolding uses
uses-none i = refl

pub uses-most : (ns : List Node) (i : ℕ) → uses ns i ≤ 3 * length ns
unfolding uses
uses-most [] i = omega arith
uses-most (n ∷ ns) i = let h = uses-most ns i in let t = times_in-operands i n in omega arith

-- ---- the kind of `sym`

pub sym-kind : (k : ℕ) → eqb k (kind_for sym_form) ≡ sym_by (row_of k)
unfolding row_of rows
sym-kind k = go (eqb k (kind_for sym_form)) refl
  where
    go : (t : Bool) → eqb k (kind_for sym_form) ≡ t → t ≡ sym_by (row_of k)
    go true e = rw (eqb-true k (kind_for sym_form) e)
    go false e = sym (other_row sym_by (sym_form ∷ []) k refl (but (eqb-false k (kind_for sym_form) e) none_left))

-- ---- how many `sym` are around

pub around-none : (i j : ℕ) → syms_around i j [] ≡ 0
unfolding syms_around
around-none i j = refl

-- one node more, from the last down
pub around-step : (ns : List Node) (i j : ℕ) → j < length ns → syms_around i j (drop j ns) ≡ pick (eqb (times_in i (operands (node_at ns j))) 0) (syms_around i (suc j) (drop (suc j) ns)) (pick (is_sym_node (node_at ns j)) 1 0 + syms_around j (suc j) (drop (suc j) ns))
unfolding syms_around
around-step ns i j h = rw (drop-cons ns j unused) refl

pub around-most : (i j : ℕ) (ns : List Node) → syms_around i j ns ≤ length ns
unfolding syms_around
around-most i j [] = omega arith
around-most i j (n ∷ ns) = go (eqb (times_in i (operands n)) 0) (around-most i (suc j) ns) (around-most j (suc j) ns)
  where
    go : (t : Bool) → syms_around i (suc j) ns ≤ length ns → syms_around j (suc j) ns ≤ length ns → pick t (syms_around i (suc j) ns) (pick (is_sym_node n) 1 0 + syms_around j (suc j) ns) ≤ suc (length ns)
    go true a b = omega arith
    go false a b = let p = pick-most (is_sym_node n) in omega arith

-- no node up to i has i as an operand, so that the climb may begin at any of them
module _ (ns : List Node) (formed : (j : ℕ) → j < length ns → well_formed ns j ≡ true) where
  around_skip : (i j : ℕ) → j ≤ i → j < length ns → syms_around i j (drop j ns) ≡ syms_around i (suc j) (drop (suc j) ns)
  around_skip i j h l = rw (around-step ns i j l, not-before ns i j (formed j l) h) refl

  around-up : (i k j : ℕ) → j + k ≡ suc i → i < length ns → syms_around i j (drop j ns) ≡ syms_around i (suc i) (drop (suc i) ns)
  around-up i zero j e l = let q : j ≡ suc i = omega arith in rw q refl
  around-up i (suc k) j e l = around_skip i j (omega arith) (omega arith) ∙ around-up i k (suc j) (omega arith) l

  pub around-from-first : (i : ℕ) → i < length ns → syms_around i 0 ns ≡ syms_around i (suc i) (drop (suc i) ns)
  around-from-first i l = around-up i (suc i) 0 (omega arith) l
