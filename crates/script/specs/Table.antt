-- A table as a call lends it, and the tests that a table passes or is turned down by (docs/REFUSALS.md: 32, 2, 3, 33, 4, 5, 13, in
-- this order). Only the used places are looked at, and a refusal names the lowest node that it fits. Assumes nothing.
use Rattle.std.specs.Prelude.{Bool, false, not, ◌&&◌, List, [], ◌∷◌, ℕ, suc, ◌+◌, pred, leb, ltb, eqb, length, take, drop, get_or}
use Rattle.std.proofs.Math.Option.{Option, none, some}
use Rattle.script.specs.Limits.{node_limit, entry_limit, nesting_limit, type_limit, counts_fit}
use Rattle.script.specs.Rows.{Row, truth_form, row_of, number_up_to, is_sym}
use Rattle.script.specs.Rows.Kinds.{kind_for}
use Rattle.script.specs.Tests.{pick, all, lowest, need, need_none}
use Rattle.script.specs.declared.Node.{Node}
use Rattle.script.specs.declared.Refusal.{Refusal}
use Rattle.script.specs.declared.Refusal.TheVariants.{TableTooSmall, TooMany, NoNode, BadTypeCode, BadOperand, NotUsedOnce, TooDeep}
pub mod Cases
pub mod Laws
pub mod Uses

-- all places that are lent, and how many of them are used
pub record Table : Type 0 where
  pub lent_nodes : List Node
  pub node_count : ℕ
  pub lent_entries : List ℕ
  pub entry_count : ℕ

abbrev pub nodes_of : Table → List Node
nodes_of t = take t.node_count t.lent_nodes

abbrev pub entries_of : Table → List ℕ
entries_of t = take t.entry_count t.lent_entries

abbrev pub node_of : ℕ → ℕ → ℕ → ℕ → Node
node_of k x y z = record { kind = k; a = x; b = y; c = z }

-- what an unused place holds: `false`
abbrev pub unused : Node
unused = node_of (kind_for (truth_form false)) 0 0 0

abbrev pub node_at : List Node → ℕ → Node
node_at ns i = get_or ns i unused

abbrev pub fields : Node → List ℕ
fields n = n.a ∷ n.b ∷ n.c ∷ []

-- ---- 4: operands that are no earlier nodes, a kind with no word, a number out of its range, an unused operand other than 0

abbrev pub right_operands : Option ℕ → ℕ → List ℕ → Bool
right_operands none i os = all (λ o. ltb o i) os
right_operands (some m) i os = all (λ o. leb o m) os

abbrev pub right_node : Option Row → ℕ → Node → Bool
right_node none i n = false
right_node (some r) i n =
    right_operands (number_up_to r.form) i (take r.count (fields n)) && all (λ o. eqb o 0) (drop r.count (fields n))

unfoldable pub well_formed : List Node → ℕ → Bool
well_formed ns i = right_node (row_of (node_at ns i).kind) i (node_at ns i)

-- ---- 5: a node other than the last that is not used exactly once

abbrev pub nodes_among : Option ℕ → List ℕ → List ℕ
nodes_among none os = os
nodes_among (some m) os = []

abbrev pub operands_by : Option Row → Node → List ℕ
operands_by none n = []
operands_by (some r) n = nodes_among (number_up_to r.form) (take r.count (fields n))

-- the nodes that a node has as operands
unfoldable pub operands : Node → List ℕ
operands n = operands_by (row_of n.kind) n

unfoldable pub times_in : ℕ → List ℕ → ℕ
times_in i [] = 0
times_in i (o ∷ os) = pick (eqb o i) 1 0 + times_in i os

-- in how many places of the nodes i is an operand
unfoldable pub uses : List Node → ℕ → ℕ
uses [] i = 0
uses (n ∷ ns) i = times_in i (operands n) + uses ns i

-- ---- 13: a `sym` with four or more around it

abbrev pub sym_by : Option Row → Bool
sym_by none = false
sym_by (some r) = is_sym r.form

abbrev pub is_sym_node : Node → Bool
is_sym_node n = sym_by (row_of n.kind)

-- how many `sym` are around node i, where the nodes from j on are given: climb to the node that has it as an operand, and on from there
unfoldable pub syms_around : ℕ → ℕ → List Node → ℕ
syms_around i j [] = 0
syms_around i j (n ∷ ns) =
    pick (eqb (times_in i (operands n)) 0) (syms_around i (suc j) ns) (pick (is_sym_node n) 1 0 + syms_around j (suc j) ns)

unfoldable pub too_deep : List Node → ℕ → Bool
too_deep ns i = is_sym_node (node_at ns i) && leb nesting_limit (syms_around i (suc i) (drop (suc i) ns))

-- ---- the tests in their order

-- 5 and 13
unfoldable pub tree_test : List Node → Option Refusal
tree_test ns =
    need_none (lowest (λ i. not (eqb (uses ns i) 1)) (pred (length ns))) NotUsedOnce
    (need_none (lowest (too_deep ns) (length ns)) TooDeep none)

unfoldable pub nodes_test : List Node → Option Refusal
nodes_test ns = need_none (lowest (λ i. not (well_formed ns i)) (length ns)) BadOperand (tree_test ns)

unfoldable pub table_test : Table → Option Refusal
table_test t =
    need (leb node_limit (length t.lent_nodes) && leb entry_limit (length t.lent_entries)) TableTooSmall
    (need (counts_fit t.node_count t.entry_count) TooMany
    (need (ltb 0 t.node_count) NoNode
    (need (all (λ c. leb c type_limit) (entries_of t)) BadTypeCode
    (nodes_test (nodes_of t)))))
