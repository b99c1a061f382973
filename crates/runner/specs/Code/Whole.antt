-- The whole call as the code makes it: what a table that passes its tests, and values and cells that pass theirs, are to a run, and the answer of each
-- way through the call. Assumes nothing.
use Rattle.std.specs.Prelude.{true, false, List, ◌++◌, ◌≡◌, ℕ, suc, ◌+◌, ◌*◌, ◌≤◌, length, take, Ok, Err}
use Rattle.std.proofs.Math.Option.{none, some}
use Rattle.std.proofs.Math.Path.{refl, ap}
use Rattle.std.proofs.Common.{sym, subst, ◌∙◌, arith}
use Rattle.std.proofs.lemmas.List.{take-append-le}
use Rattle.std.proofs.Math.Seq.{take-length}
use Rattle.script.specs.Code.Forms.{tree_in}
use Rattle.script.specs.Code.Root.{Rooted, rooted, root-formed, root-tree, root-size}
use Rattle.script.specs.Flat.{nodes_in, table_in}
use Rattle.script.specs.Limits.{node_limit, entry_limit}
use Rattle.script.specs.Table.{table_test}
use Rattle.script.specs.Table.Laws.{passes}
use Rattle.script.specs.Tree.{Expr, root, tree_of}
use Rattle.script.specs.declared.Ended.{Ended}
use Rattle.script.specs.declared.Refusal.{Refusal}
use Rattle.script.specs.declared.Value.{Value}
use Rattle.rules.specs.Evaluation.{Outcome, gave, failed, eval}
use Rattle.rules.specs.Running.{Run, values_of, all_valid, used_limit, lent_limit, right_cells, right_values, finished, run_test, run_table}
use Rattle.rules.specs.Running.Laws.{Bytes}
use Rattle.rules.proofs.Running.Laws.{bytes-values, length-values, values_in_range}
use Rattle.rules.proofs.Running.Room.{cells_fit, values_fit}
use Rattle.operators.specs.Steps.{Holds, Does, Ready, Runs}
use Rattle.operators.specs.Steps.Values.{holds-values}
use Rattle.operators.specs.Named.{Step}
use Rattle.runner.specs.Answered.{Answered}

-- a table, values and cells that a run can take
pub record Runnable (table : List ℕ) (nodes entries : ℕ) (values cells : List ℕ) (used : ℕ) : Type 0 where
  pub nodes_rooted : Rooted table nodes
  pub entries_most : entries ≤ entry_limit
  pub values_count : length values ≡ 5 * entries
  pub values_valid : all_valid used entries values ≡ true
  pub used_most : used ≤ used_limit
  pub lent : 5 * lent_limit ≤ length cells
  pub cells_valid : all_valid used used cells ≡ true

-- ---- running the last node

module _ {table : List ℕ} {nodes entries : ℕ} {values cells : List ℕ} {used : ℕ} (q : Runnable table nodes entries values cells used)
    (m : ℕ) (last : suc m ≡ nodes) where
  module _ (vb : Bytes values) (env rest : List ℕ) (is : env ≡ take (length values) values ++ rest) where
    env_holds : Holds env (values_of entries values)
    env_holds =
        record {
          bytes =
              rw (length-values, is, take-length)
              (take-append-le (5 * entries) values rest (omega (arith, q.values_count))
              ∙ sym (bytes-values used entries values (omega (arith, q.values_count)) vb q.values_valid));
          ranged = values_in_range entries vb;
        }

    env_values : values_of entries env ≡ values_of entries values
    env_values = ap (λ (n : ℕ). values_of n env) (sym (length-values entries values)) ∙ holds-values env_holds

    pub last_ready : Bytes cells → 5 * (entry_limit + node_limit) ≤ length env → Ready table env entries cells used m
    last_ready cb l =
        record {
          formed = root-formed q.nodes_rooted m last;
          environment = record {
            held = subst (λ (vs : List Value). Holds env vs) (sym env_values) env_holds;
            room = omega (arith, l, last, q.nodes_rooted.formed.most, q.entries_most);
          };
          store = record {
            held = record {
              bytes = rw length-values (sym (bytes-values used used cells (omega (arith, q.used_most, q.lent)) cb q.cells_valid));
              ranged = values_in_range used cb;
            };
            lent = q.lent;
            room = omega (arith, root-size q.nodes_rooted m last, q.used_most, q.nodes_rooted.formed.most);
          };
        }

    pub last-does : {env_left left : List ℕ} {r : Step}
        → Runs (eval (tree_in table m) (values_of entries env) (values_of used cells)) entries env env_left r cells left
        → Does (eval (root (take nodes (nodes_in table))) (values_of entries values) (values_of used cells)) r cells left
    last-does {left = left} {r = r} d =
        subst (λ (t : Expr). Does (eval t (values_of entries values) (values_of used cells)) r cells left) (root-tree q.nodes_rooted m last)
        (subst (λ (vs : List Value). Does (eval (tree_in table m) vs (values_of used cells)) r cells left) env_values d.does)

-- ---- the ways through the call

finished_by : Step → List ℕ → Run
finished_by (Ok (v, u)) left = record { answer = Ok (Ended.Gave v u); cells = left }
finished_by (Err (n, u)) left = record { answer = Ok (Ended.Failed n u); cells = left }

finished-is : (o : Outcome) {r : Step} {cells left : List ℕ} → Does o r cells left → finished_by r left ≡ finished cells o
unfolding finished_by
finished-is (gave v cs) d = rw (d.answer, d.leaves) refl
finished-is (failed n cs) d = rw (d.answer, d.leaves) refl

module _ (table : List ℕ) (nodes : ℕ) (es : List ℕ) (entries : ℕ) (values cells : List ℕ) (used : ℕ) where
  pub table-refused : {e : Refusal} → table_test (table_in table nodes es entries) ≡ some e → Answered table nodes es entries values cells used (Err e) cells
  unfolding run_table
  table-refused p = rw p refl

  module _ (p : table_test (table_in table nodes es entries) ≡ none) where
    pub few-entries : entries ≤ entry_limit
    few-entries = (passes (table_in table nodes es entries) p).entries_most

    pub cells-refused : right_cells cells used ≡ false → Answered table nodes es entries values cells used (Err Refusal.BadCells) cells
    unfolding run_table run_test
    cells-refused e = rw (p, e) refl

    module _ (c : right_cells cells used ≡ true) where
      pub values-refused : right_values entries values cells used ≡ false → Answered table nodes es entries values cells used (Err Refusal.BadValues) cells
      unfolding run_table run_test
      values-refused e = rw (p, c, e) refl

      module _ (v : right_values entries values cells used ≡ true) where
        pub runnable : Runnable table nodes entries values cells used
        runnable =
            let a = cells_fit cells used c in
            let b = values_fit entries values cells used v in
            record {
              nodes_rooted = rooted table nodes es entries p;
              entries_most = few-entries;
              values_count = b.counts;
              values_valid = b.values_valid;
              used_most = a.0;
              lent = a.1;
              cells_valid = b.cells_valid;
            }

        run_is : finished cells (eval (root (take nodes (nodes_in table))) (values_of entries values) (values_of used cells)) ≡ run_table (table_in table nodes es entries) values cells used
        unfolding run_table run_test tree_of
        run_is = rw (p, c, v) refl

        module _ {r : Step} {left : List ℕ}
            (d : Does (eval (root (take nodes (nodes_in table))) (values_of entries values) (values_of used cells)) r cells left) where
          pub run_gave : {x : Value} {u : ℕ} → r ≡ Ok (x, u) → Answered table nodes es entries values cells used (Ok (Ended.Gave x u)) left
          unfolding finished_by
          run_gave e = ap (λ (s : Step). finished_by s left) (sym e) ∙ finished-is _ d ∙ run_is

          pub run_failed : {n u : ℕ} → r ≡ Err (n, u) → Answered table nodes es entries values cells used (Ok (Ended.Failed n u)) left
          unfolding finished_by
          run_failed e = ap (λ (s : Step). finished_by s left) (sym e) ∙ finished-is _ d ∙ run_is
