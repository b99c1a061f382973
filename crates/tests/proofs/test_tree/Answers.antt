-- `tests::test_tree` meets its contract: 5, then 13. Assumes nothing.
use mathlib.Core.Path.{◌∙◌}
use lib.ListN.{take}
use Rattle.script.specs.Answers.Named.{handed_on}
use Rattle.script.specs.Flat.{nodes_in}
use Rattle.script.specs.Code.TableTests.Laws.{tree-refused, tree-passed}
use Rattle.tests.proofs.test_tree.Goals as goal

pub returns-in_err-test_uses : goal.returns-in_err-test_uses
returns-in_err-test_uses c =
    let a = c.args in
    let t = c.test_uses in
    handed_on c.from_residual.result c.from_residual.ensures.1 ∙ tree-refused (take a.nodes (nodes_in a.table.now)) t.result t.ensures _ c.in_err-test_uses.was

pub returns : goal.returns
returns c =
    let a = c.args in
    let t = c.test_uses in
    c.test_nesting.ensures ∙ tree-passed (take a.nodes (nodes_in a.table.now)) t.result t.ensures c.in_ok-test_uses.was
