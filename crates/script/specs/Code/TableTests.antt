-- The tests of a table as the code makes them: its answer, one operand at a time, the counts of uses and the numbers of `sym` around that two
-- lists hold, and the tests by these lists. Assumes nothing.
use Rattle.std.specs.Prelude.{Bool, false, not, ◌&&◌, List, [], ◌∷◌, ◌≡◌, ℕ, suc, ◌+◌, ◌*◌, ◌≤◌, ◌<◌, pred, leb, ltb, eqb, length, drop, get_or}
use Rattle.std.proofs.Math.Option.{Option, none, some}
use Rattle.script.specs.Flat.{node_width}
use Rattle.script.specs.Limits.{node_limit, nesting_limit, word_limit, type_limit}
use Rattle.script.specs.Rows.{Row, number_up_to}
use Rattle.script.specs.Table.{Table, nodes_of, entries_of, node_at, well_formed, is_sym_node, times_in, uses, syms_around, too_deep, nodes_test}
use Rattle.script.specs.Tests.{pick, all, lowest, need, need_none}
use Rattle.script.specs.declared.Node.{Node}
use Rattle.script.specs.declared.Refusal.{Refusal}
use Rattle.script.specs.declared.Refusal.TheVariants.{NoNode, BadTypeCode, BadOperand, NotUsedOnce, TooDeep}
pub mod Laws

-- the first n nodes are lent, and within the limit
pub record Lent (xs : List ℕ) (n : ℕ) : Type 0 where
  pub most : n ≤ node_limit
  pub room : node_width * n ≤ length xs

-- ---- 4

abbrev pub right_operand : Option ℕ → ℕ → ℕ → Bool
right_operand none o i = ltb o i
right_operand (some m) o i = leb o m

-- the operand o at place k of node i
unfoldable pub right_field : Option Row → ℕ → ℕ → ℕ → Bool
right_field none k o i = false
right_field (some r) k o i = pick (ltb k r.count) (right_operand (number_up_to r.form) o i) (eqb o 0)

unfoldable pub operands_test : List Node → Option Refusal
operands_test ns = need_none (lowest (λ i. not (well_formed ns i)) (length ns)) BadOperand none

-- ---- 5 and 13

unfoldable pub uses_test : List Node → Option Refusal
uses_test ns = need_none (lowest (λ i. not (eqb (uses ns i) 1)) (pred (length ns))) NotUsedOnce none

unfoldable pub depths_test : List Node → Option Refusal
depths_test ns = need_none (lowest (too_deep ns) (length ns)) TooDeep none

-- a list with a number for each of n nodes, all 0 so far
pub record Zeros (n : ℕ) (xs : List ℕ) : Type 0 where
  pub room : n ≤ length xs
  pub zeros : (i : ℕ) → get_or xs i 0 ≡ 0

-- each of the operands has a place in the list
pub record Within (os xs : List ℕ) : Type 0 where
  pub within : (k : ℕ) → k < length os → get_or os k 0 < length xs

-- every place of the list has room for three more
pub record Small (xs : List ℕ) : Type 0 where
  pub small : (i : ℕ) → i < length xs → get_or xs i 0 + 3 ≤ word_limit

-- each place has grown by how often it is among the operands
pub record Counted (os before after : List ℕ) : Type 0 where
  pub same : length after ≡ length before
  pub at : (i : ℕ) → i < length before → get_or after i 0 ≡ get_or before i 0 + times_in i os

-- each place that is among the operands holds v
pub record Spread (os : List ℕ) (v : ℕ) (before after : List ℕ) : Type 0 where
  pub same : length after ≡ length before
  pub at : (i : ℕ) → i < length before → get_or after i 0 ≡ pick (eqb (times_in i os) 0) (get_or before i 0) v

-- the counts of uses of the nodes
pub record UseCounts (ns : List Node) (xs : List ℕ) : Type 0 where
  pub room : length ns ≤ length xs
  pub counts : (i : ℕ) → i < length ns → get_or xs i 0 ≡ uses ns i

-- how many `sym` are around each node
pub record Nestings (ns : List Node) (xs : List ℕ) : Type 0 where
  pub room : length ns ≤ length xs
  pub around : (i : ℕ) → i < length ns → get_or xs i 0 ≡ syms_around i (suc i) (drop (suc i) ns)

-- 5 by the counts of n nodes
unfoldable pub counts_test : List ℕ → ℕ → Option Refusal
counts_test xs n = need_none (lowest (λ i. not (eqb (get_or xs i 0) 1)) (pred n)) NotUsedOnce none

-- how many nodes are `sym`
unfoldable pub syms_in : List Node → ℕ
syms_in [] = 0
syms_in (n ∷ ns) = pick (is_sym_node n) 1 0 + syms_in ns

abbrev pub deep_at : Node → ℕ → Bool
deep_at n d = is_sym_node n && leb nesting_limit d

-- 13 by the nestings
unfoldable pub nesting_test : List Node → List ℕ → Option Refusal
nesting_test ns xs = need_none (lowest (λ i. deep_at (node_at ns i) (get_or xs i 0)) (length ns)) TooDeep none

-- ---- 3, 33, 4, 5 and 13 in a row

unfoldable pub used_test : Table → Option Refusal
used_test t = need (ltb 0 t.node_count) NoNode (need (all (λ c. leb c type_limit) (entries_of t)) BadTypeCode (nodes_test (nodes_of t)))
