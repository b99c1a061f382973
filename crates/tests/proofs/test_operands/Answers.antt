-- `tests::test_operands` meets its contract. The loop's invariant: each node passed is well formed. Assumes nothing.
use mathlib.Core.Bool.{not}
use mathlib.Core.Path.{sym, ap, ◌∙◌}
use Rattle.script.specs.Code.TableTests.Laws.{formed-is}
use Rattle.script.specs.Tests.Loops.{look, look_on}
use Rattle.tests.specs.Lowest.{malformed, operands-refused, operands-passed}
use Rattle.tests.proofs.test_operands.Goals as goal

pub loop-i-init : goal.loop-i-init
loop-i-init c = let a = c.args in look (malformed a.table.now a.nodes) a.nodes

pub returns-then-not-well_formed : goal.returns-then-not-well_formed
returns-then-not-well_formed c =
    let a = c.args in
    let formed = formed-is a.table.now a.nodes c.loop-i.i c.loop-i-test.true c.node_at.result c.well_formed-in-loop-i.result c.node_at.ensures c.well_formed-in-loop-i.ensures in
    operands-refused a.table.now a.nodes c.requires c.loop-i.i c.loop-i.invariant c.loop-i-test.true (ap not (sym formed ∙ c.if-not-well_formed.true))

pub loop-i-preserved : goal.loop-i-preserved
loop-i-preserved c =
    let a = c.args in
    let formed = formed-is a.table.now a.nodes c.loop-i.i c.loop-i-test.true c.node_at.result c.well_formed-in-loop-i.result c.node_at.ensures c.well_formed-in-loop-i.ensures in
    look_on (malformed a.table.now a.nodes) a.nodes c.loop-i.i c.loop-i.invariant c.loop-i-test.true (ap not (sym formed ∙ c.if-not-well_formed.false))

pub returns : goal.returns
returns c =
    let a = c.args in
    operands-passed a.table.now a.nodes c.requires c.loop-i.i c.loop-i.invariant c.loop-i-test.false
