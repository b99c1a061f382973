-- `reader::at_end` meets its contract. Assumes nothing.
use mathlib.Core.Path.{refl, sym, ◌∙◌}
use native.Mathlib.Omega.{arith}
use borrow.Author.Tests.{lt-ltb, le-ltb}
use lib.ListN.{take}
use Rattle.script.specs.Answers.Named.{handed_on}
use Rattle.script.specs.Flat.{nodes_in}
use Rattle.script.specs.Table.{tree_test}
use Rattle.script.specs.Code.TableTests.Laws.{passed_none, refused-some}
use Rattle.reader.proofs.at_end.Goals as goal

pub returns-then-script-eq0 : goal.returns-then-script-eq0
returns-then-script-eq0 c = simp (le-ltb 0 c.args.script.nodes (omega arith))

pub returns : goal.returns
returns c =
    let a = c.args in
    let t = passed_none (tree_test (take a.script.nodes (nodes_in a.table.now))) (sym c.test_tree.ensures ∙ c.in_ok-test_tree.was) in
    rw (lt-ltb 0 a.script.nodes (omega arith), t) refl

pub returns-in_err-test_tree : goal.returns-in_err-test_tree
returns-in_err-test_tree c =
    let a = c.args in
    let t = refused-some (tree_test (take a.script.nodes (nodes_in a.table.now))) c.in_err-test_tree.field-0.0 (sym c.test_tree.ensures ∙ c.in_err-test_tree.was) in
    handed_on c.from_residual.result c.from_residual.ensures.1 ∙ rw (lt-ltb 0 a.script.nodes (omega arith), t) refl
