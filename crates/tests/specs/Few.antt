-- No more `sym` are around a node than there are, so that few are not nested too deep. Assumes nothing.
use Rattle.std.specs.Prelude.{Bool, true, false, ◌&&◌, List, [], ◌∷◌, ◌≡◌, refl, ℕ, zero, suc, ◌+◌, ◌≤◌, ◌<◌, leb, eqb, length, take, drop}
use Rattle.std.proofs.Math.Option.{none}
use Rattle.std.proofs.Common.{ap, ◌∙◌, arith, drop_of_length-le, drop-cons}
use Rattle.std.proofs.lemmas.Bool.{lt-leb}
use Rattle.script.specs.Flat.{nodes_in}
use Rattle.script.specs.Limits.{nesting_limit}
use Rattle.script.specs.Table.{unused, node_at, operands, times_in, is_sym_node, syms_around, too_deep}
use Rattle.script.specs.Table.Uses.{pick-most}
use Rattle.script.specs.Code.TableTests.{Lent, syms_in, depths_test}
use Rattle.script.specs.Code.TableTests.Laws.{lent_length, same-node}
use Rattle.script.specs.Tests.{pick}
use Rattle.script.specs.Tests.Laws.{none-lowest, none_need_none}
use Rattle.script.specs.declared.Node.{Node}
use Rattle.script.specs.declared.Refusal.TheVariants.{TooDeep}

-- ---- counting

-- one node more
syms_step : (ns : List Node) (i : ℕ) → i < length ns → syms_in (drop i ns) ≡ pick (is_sym_node (node_at ns i)) 1 0 + syms_in (drop (suc i) ns)
unfolding syms_in
syms_step ns i h = rw (drop-cons ns i unused) refl

syms_past : (ns : List Node) (i : ℕ) → length ns ≤ i → syms_in (drop i ns) ≡ 0
unfolding syms_in
syms_past ns i h = rw drop_of_length-le refl

module _ (xs : List ℕ) (n : ℕ) (l : Lent xs n) (i : ℕ) where
  -- a turn: the node's one is counted, no more than one
  pub syms_turn : {count next : ℕ} {m : Node} → i < n → m ≡ node_at (nodes_in xs) i → next ≡ pick (is_sym_node m) 1 0 + count
      → count + syms_in (drop i (take n (nodes_in xs))) ≡ syms_in (take n (nodes_in xs))
      → (next ≤ suc count) × (next + syms_in (drop (i + 1) (take n (nodes_in xs))) ≡ syms_in (take n (nodes_in xs)))
  syms_turn {count} {next} {m} h e f q =
      let b = ap {B = ℕ} (λ (m : Node). pick (is_sym_node m) 1 0) (e ∙ same-node xs n i h) in
      let s = syms_step (take n (nodes_in xs)) i (rw (lent_length xs n l) h) in
      let o = pick-most (is_sym_node m) in
      let j : i + 1 ≡ suc i = omega arith in
      (omega arith, rw j (omega arith))

  pub syms_end : {count : ℕ} → n ≤ i → count + syms_in (drop i (take n (nodes_in xs))) ≡ syms_in (take n (nodes_in xs)) → count ≡ syms_in (take n (nodes_in xs))
  syms_end h q = let s = syms_past (take n (nodes_in xs)) i (rw (lent_length xs n l) h) in omega arith

-- ---- few

around_syms : (i j : ℕ) (ns : List Node) → syms_around i j ns ≤ syms_in ns
unfolding syms_around syms_in
around_syms i j [] = omega arith
around_syms i j (n ∷ ns) = go (eqb (times_in i (operands n)) 0) (around_syms i (suc j) ns) (around_syms j (suc j) ns)
  where
    go : (t : Bool) → syms_around i (suc j) ns ≤ syms_in ns → syms_around j (suc j) ns ≤ syms_in ns
        → pick t (syms_around i (suc j) ns) (pick (is_sym_node n) 1 0 + syms_around j (suc j) ns) ≤ pick (is_sym_node n) 1 0 + syms_in ns
    go true a b = omega arith
    go false a b = omega arith

-- those from a node on are among all
syms_from : (ns : List Node) (i : ℕ) → syms_in (drop i ns) ≤ syms_in ns
unfolding syms_in
syms_from ns zero = omega arith
syms_from [] (suc i) = omega arith
syms_from (n ∷ ns) (suc i) = let h = syms_from ns i in omega arith

few-around : (ns : List Node) → syms_in ns ≤ nesting_limit → (i : ℕ) → i < length ns → too_deep ns i ≡ false
unfolding too_deep
few-around ns f i h = go (is_sym_node (node_at ns i)) (syms_step ns i h)
  where
    go : (b : Bool) → syms_in (drop i ns) ≡ pick b 1 0 + syms_in (drop (suc i) ns) → (b && leb nesting_limit (syms_around i (suc i) (drop (suc i) ns))) ≡ false
    go true e =
        let a = around_syms i (suc i) (drop (suc i) ns) in
        let s = syms_from ns i in
        lt-leb nesting_limit (syms_around i (suc i) (drop (suc i) ns)) (omega arith)
    go false e = refl

pub few-shallow : (ns : List Node) → syms_in ns ≤ nesting_limit → depths_test ns ≡ none
unfolding depths_test
few-shallow ns f = none_need_none _ TooDeep _ (none-lowest (too_deep ns) (length ns) (few-around ns f)) refl
