-- The tests of a whole table, put together from those of its parts. Assumes nothing.
use Rattle.std.specs.Prelude.{Bool, true, false, not, List, ◌≡◌, ℕ, zero, suc, ◌/◌, ◌≤◌, ◌<◌, leb, ltb, length, take, replicate, Err, None, Ok, Some}
use Rattle.std.proofs.Math.Path.{refl, sym}
use Rattle.std.proofs.Common.{◌∙◌, arith}
use borrow.Author.Tests.{le-leb, lt-leb, leb-true, lt-ltb, le-ltb, not-false}
use Rattle.script.specs.Flat.{node_width, nodes_in, table_in}
use Rattle.script.specs.Flat.Laws.{length-nodes_in, enough-nodes}
use Rattle.script.specs.Limits.{node_limit, entry_limit, type_limit, size_of, pick_sized, counts_fit, script_of}
use Rattle.script.specs.Rows.Laws.{same_anywhere}
use Rattle.script.specs.Table.{Table, nodes_of, entries_of, well_formed, nodes_test, table_test}
use Rattle.script.specs.Code.TableTests.{Lent, Zeros, operands_test, used_test}
use Rattle.script.specs.Flat.{tested_by, FormedNodes}
use Rattle.script.specs.Code.TableTests.Laws.{lent_length, passed_none}
use Rattle.script.specs.Tests.{all}
use Rattle.script.specs.Tests.Laws.{both_true, lowest-none, need_none_none}
use Rattle.script.specs.declared.Refusal.TheVariants.{TableTooSmall, TooMany, NoNode, BadTypeCode, BadOperand}
use Rattle.script.specs.declared.Script.{Script}
use Rattle.script.specs.Answers.Named.{Sized}
use Rattle.script.specs.Answers.Named.{Tested}

-- a new list for the nodes
pub zeros-made : (n : ℕ) → n ≤ node_limit → Zeros n (replicate node_limit 0)
zeros-made n h = record { room = h; zeros = same_anywhere node_limit 0 }

-- nodes that pass 4
pub formed-nodes : (xs : List ℕ) (n : ℕ) (t : Tested) → Lent xs n → t ≡ tested_by (operands_test (take n (nodes_in xs))) → t ≡ Ok tt → FormedNodes xs n
unfolding operands_test
formed-nodes xs n t l e f =
    let o = (need_none_none _ BadOperand _ (passed_none _ (sym e ∙ f))).0 in
    record {
      most = l.most;
      room = l.room;
      formed = λ i h.
          not-false (well_formed (take n (nodes_in xs)) i)
          (lowest-none (λ i. not (well_formed (take n (nodes_in xs)) i)) (length (take n (nodes_in xs))) o i (rw (lent_length xs n l) h));
    }

-- ---- 3 and 33

module _ (t : Table) where
  pub used_no_node : t.node_count ≡ 0 → Err NoNode ≡ tested_by (used_test t)
  unfolding used_test
  used_no_node e = rw (le-ltb 0 t.node_count (omega arith)) refl

  module _ (some-node : t.node_count ≡ 0 → ⊥) (r : Bool) (codes : r ≡ all (λ c. leb c type_limit) (entries_of t)) where
    has-node : ltb 0 t.node_count ≡ true
    has-node = lt-ltb 0 t.node_count (go t.node_count some-node)
      where
        go : (n : ℕ) → (n ≡ 0 → ⊥) → 0 < n
        go zero f = absurd (f refl)
        go (suc n) f = omega arith

    pub used-wrong-code : r ≡ false → Err BadTypeCode ≡ tested_by (used_test t)
    unfolding used_test
    used-wrong-code f = rw (has-node, sym codes ∙ f) refl

    pub used-right-codes : r ≡ true → tested_by (nodes_test (nodes_of t)) ≡ tested_by (used_test t)
    unfolding used_test
    used-right-codes f = rw (has-node, sym codes ∙ f) refl

-- ---- 32 and 2

too_large : (b : Bool) (x : Script) → pick_sized b (Some x) ≡ None → b ≡ false
too_large true x e = let z : ◌≡◌ {A = ℕ} 0 1 = cc in absurd (omega arith)
too_large false x e = refl

fits_both : (b : Bool) (x y : Script) → pick_sized b (Some x) ≡ Some y → b ≡ true
fits_both true x y e = refl
fits_both false x y e = let z : ◌≡◌ {A = ℕ} 0 1 = cc in absurd (omega arith)

module _ (xs : List ℕ) (n : ℕ) (es : List ℕ) (m : ℕ) where
  pub table-few-nodes : length xs / node_width < node_limit → Err TableTooSmall ≡ tested_by (table_test (table_in xs n es m))
  unfolding table_test
  table-few-nodes h = let l = length-nodes_in xs in rw (lt-leb node_limit (length (nodes_in xs)) (omega arith)) refl

  module _ (nodes-lent : node_limit ≤ length xs / node_width) where
    pub table-few-entries : length es < entry_limit → Err TableTooSmall ≡ tested_by (table_test (table_in xs n es m))
    unfolding table_test
    table-few-entries h = rw (enough-nodes xs nodes-lent, lt-leb entry_limit (length es) h) refl

    module _ (entries-lent : entry_limit ≤ length es) (s : Sized) (sized : s ≡ script_of n m) where
      pub table_too_many : s ≡ None → Err TooMany ≡ tested_by (table_test (table_in xs n es m))
      unfolding table_test
      table_too_many e = rw (enough-nodes xs nodes-lent, le-leb entry_limit (length es) entries-lent, too_large (counts_fit n m) (size_of n m) (sym sized ∙ e)) refl

      module _ (x : Script) (fits : s ≡ Some x) where
        counts_fit_lem : counts_fit n m ≡ true
        counts_fit_lem = fits_both (counts_fit n m) (size_of n m) x (sym sized ∙ fits)

        pub table-within : tested_by (used_test (table_in xs n es m)) ≡ tested_by (table_test (table_in xs n es m))
        unfolding table_test used_test
        table-within = rw (enough-nodes xs nodes-lent, le-leb entry_limit (length es) entries-lent, counts_fit_lem) refl

        pub table-lent : Lent xs n × (m ≤ length es)
        table-lent =
            let b = both_true (leb n node_limit) (leb m entry_limit) counts_fit_lem in
            let u = leb-true n node_limit b.0 in
            let v = leb-true m entry_limit b.1 in
            (record { most = u; room = omega arith }, omega arith)
