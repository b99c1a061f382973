-- `tests::test_used` meets its contract: 3 and 33, then the tests of the nodes. Assumes nothing.
use mathlib.Core.Path.{◌∙◌}
use Rattle.script.specs.Flat.{table_in}
use Rattle.tests.specs.Whole.{used_no_node, used-wrong-code, used-right-codes}
use Rattle.tests.proofs.test_used.Goals as goal

pub returns-then-lent-eq0 : goal.returns-then-lent-eq0
returns-then-lent-eq0 c = let a = c.args in used_no_node (table_in a.lent.now.table.now a.lent.now.nodes a.lent.now.entries.now a.lent.now.entry_count) c.if-lent-eq0.true

pub returns-then-right_codes : goal.returns-then-right_codes
returns-then-right_codes c =
    let a = c.args in
    let r = c.right_codes in
    c.test_nodes.ensures
    ∙ used-right-codes (table_in a.lent.now.table.now a.lent.now.nodes a.lent.now.entries.now a.lent.now.entry_count) c.if-lent-eq0.false r.result r.ensures c.if-right_codes.true

pub returns : goal.returns
returns c =
    let a = c.args in
    let r = c.right_codes in
    used-wrong-code (table_in a.lent.now.table.now a.lent.now.nodes a.lent.now.entries.now a.lent.now.entry_count) c.if-lent-eq0.false r.result r.ensures c.if-right_codes.false
