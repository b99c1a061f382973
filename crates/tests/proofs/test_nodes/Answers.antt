-- `tests::test_nodes` meets its contract: 4, then 5 and 13 of nodes that are well formed. Assumes nothing.
use mathlib.Core.Path.{◌∙◌}
use lib.ListN.{take}
use Rattle.script.specs.Answers.Named.{handed_on}
use Rattle.script.specs.Flat.{nodes_in}
use Rattle.script.specs.Code.TableTests.Laws.{nodes-refused, nodes-passed}
use Rattle.tests.specs.Whole.{formed-nodes}
use Rattle.tests.proofs.test_nodes.Goals as goal

pub test_tree-requires : goal.test_tree-requires
test_tree-requires c =
    let a = c.args in
    let t = c.test_operands in
    formed-nodes a.table.now a.nodes t.result c.requires t.ensures c.in_ok-test_operands.was

pub returns-in_err-test_operands : goal.returns-in_err-test_operands
returns-in_err-test_operands c =
    let a = c.args in
    let t = c.test_operands in
    handed_on c.from_residual.result c.from_residual.ensures.1 ∙ nodes-refused (take a.nodes (nodes_in a.table.now)) t.result t.ensures _ c.in_err-test_operands.was

pub returns : goal.returns
returns c =
    let a = c.args in
    let t = c.test_operands in
    c.test_tree.ensures ∙ nodes-passed (take a.nodes (nodes_in a.table.now)) t.result t.ensures c.in_ok-test_operands.was
