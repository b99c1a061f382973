-- What a check and a run make of a table that was copied: what they make of the table itself. Assumes nothing.
use mathlib.Core.List.{List, []}
use Rattle.std.specs.Prelude.{◌≡◌, refl, ℕ, ◌*◌, length, take}
use Rattle.std.proofs.Common.{ap, ◌∙◌}
use Rattle.script.specs.Flat.{node_width, table_in}
use Rattle.script.specs.Tree.{root, tree_of}
use Rattle.script.specs.declared.Node.{Node}
use Rattle.script.specs.Answers.Named.{Ran}
use Rattle.rules.specs.Checking.{path_limit, check, answered, check_table}
use Rattle.rules.specs.Evaluation.{eval}
use Rattle.rules.specs.Running.{values_of, finished, ran_by, run_test, run_table}
use Rattle.copies.specs.Copies.{flat_size, CopiedOut, table_of}
use Rattle.copies.specs.Copies.Alike.{Alike, same_answer, alike, table-copied}
use Rattle.records.specs.Records.{Checks, Runs}
use Rattle.script.specs.Answers.Named.{Checked}

module _ (ns ms : List Node) (n : ℕ) (es : List ℕ) (m : ℕ) (a : Alike ns ms n es m) where
  check-alike : (limit : ℕ) → check_table limit (table_of ns n es m) ≡ check_table limit (table_of ms n es m)
  unfolding check_table tree_of
  check-alike limit = same_answer ns ms n es m a (λ o ks. answered o (check limit (root ks) (take m es))) (λ r. refl)

  run_alike : (values cells : List ℕ) (used : ℕ) → run_table (table_of ns n es m) values cells used ≡ run_table (table_of ms n es m) values cells used
  unfolding run_table run_test tree_of
  run_alike values cells used =
      same_answer ns ms n es m a
      (λ o ks. ran_by o cells (ran_by (run_test (table_of [] n es m) values cells used) cells (finished cells (eval (root ks) (values_of m values) (values_of used cells))))) (λ r. refl)

module _ (ns : List Node) (xs : List ℕ) (lent : ℕ) (left : List ℕ) (size : length xs ≡ flat_size) (c : CopiedOut ns xs lent left) (n : ℕ) (es : List ℕ) (m : ℕ) where
  pub check-copied : (r : Checked) → Checks (table_in (take (node_width * lent) left) n es m) r → Checks (table_of ns n es m) r
  check-copied r e = e ∙ ap (check_table path_limit) (table-copied ns xs lent left size c n es m) ∙ check-alike (take lent ns) ns n es m (alike ns xs lent left size c n es m) path_limit

  pub run_copied : (values cells : List ℕ) (used : ℕ) (r : Ran) (cs : List ℕ) → Runs (table_in (take (node_width * lent) left) n es m) values cells used r cs → Runs (table_of ns n es m) values cells used r cs
  run_copied values cells used r cs e =
      e ∙ ap (λ t. run_table t values cells used) (table-copied ns xs lent left size c n es m)
      ∙ run_alike (take lent ns) ns n es m (alike ns xs lent left size c n es m) values cells used
